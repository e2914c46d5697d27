-- What the gate looks at in the request of a WebSocket handshake (RFC 6455, section 4.1).
use Rattle.std.specs.Prelude.{ℕ, List, codes, Option, option_map}
use Rattle.http.specs.declared.request.Request.{Request}
use Rattle.http.specs.Request.{head_of}
use Rattle.http_uri.specs.Uri.{uri_path, uri_query}
use Rattle.http_header.specs.FieldValue.{FieldValue}
use Rattle.http_header.specs.HeaderMap.{get}

-- the method, the path and the query of the target, where the page comes from, and the subprotocols that the client would speak
pub record Handshake : Type 0 where
  pub method : List ℕ
  pub path : List ℕ
  pub query : Option (List ℕ)
  pub origin : Option (List ℕ)
  pub protocols : Option (List ℕ)

-- the value of a header. Of a header that stands more than once the first counts
abbrev pub first_value : {X : Type 0} → Request X → List ℕ → Option (List ℕ)
first_value request name = option_map (λ (value : FieldValue). value.bytes) (get (head_of request).headers name)

abbrev pub handshake_of : {X : Type 0} → Request X → Handshake
handshake_of request =
    record {
      method = (head_of request).method;
      path = uri_path (head_of request).uri;
      query = uri_query (head_of request).uri;
      origin = first_value request (codes "origin");
      protocols = first_value request (codes "sec-websocket-protocol");
    }
