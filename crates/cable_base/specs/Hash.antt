-- The hash of a stream's name, by which the table finds its rows.
use Rattle.std.specs.Prelude.{ℕ, ℤ, List, take}
use Rattle.std.specs.Int.{w64, from_be_bytes, cast_signed}
use Rattle.sha2.specs.Sha256.{sha256}

-- the first eight bytes of the name's SHA-256 (FIPS 180-4), read as a signed number, high byte first
unfoldable pub channel_hash_of : List ℕ → ℤ
channel_hash_of name = cast_signed w64 (from_be_bytes w64 (take 8 (sha256 name)))
