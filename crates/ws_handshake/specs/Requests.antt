-- The request of a head, as `http` holds it.
use Rattle.std.specs.Prelude.{◌≡◌, ℕ, List, [], codes, map}
use Rattle.http.specs.declared.request.Request.{Request}
use Rattle.http.specs.Request.{head_of}
use Rattle.http_header.specs.FieldValue.{FieldValue, plain_value}
use Rattle.http_header.specs.HeaderMap.{append_all}
use Rattle.http_header.specs.Token.{lowercase}
use Rattle.http_uri.specs.Uri.{Spells}
use Rattle.websocket.specs.Headers.{Fields}

-- a header as a map keeps it
abbrev pub header_of : List ℕ × List ℕ → List ℕ × FieldValue
header_of field = (lowercase field.0, plain_value field.1)

-- it asks by GET for the target, and has the headers in their order
pub record IsRequestBy (target : List ℕ) (fields : Fields) (request : Request (Unit {0})) : Type 0 where
  pub method : (head_of request).method ≡ codes "GET"
  pub asks_for : Spells target (head_of request).uri
  pub headers : (head_of request).headers ≡ append_all [] (map header_of fields)
