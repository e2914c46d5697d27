-- The kinds of values that can be filled in.
use Rattle.std.proofs.Common.{◌≡◌, ℕ, ℤ, Bool, ◌||◌, List, Some, None, is_some, refl, ap}
use Rattle.std.specs.Prelude.{codes, option_and_then, if◌then◌else◌, decimal}
use Rattle.std.specs.Fmt.{signed_decimal}
use Rattle.serde_json.specs.Data.{unsigned, negative, float, Data, null, boolean, number, string, array, object}
use Rattle.serde_json.specs.Find.{as_str, as_number, as_u64, as_i64, as_bool}
use Rattle.channel_book.specs.Parameters.{fillable_text}

pub fillable_kinds : (d : Data) → is_some (fillable_text d) ≡ (is_some (as_str d) || is_some (option_and_then as_u64 (as_number d)) || is_some (option_and_then as_i64 (as_number d)) || is_some (as_bool d))
fillable_kinds null = refl
fillable_kinds (boolean b) = refl
fillable_kinds (number (unsigned n)) = refl
fillable_kinds (number (negative z)) = refl
fillable_kinds (number (float x)) = refl
fillable_kinds (string s) = refl
fillable_kinds (array ds) = refl
fillable_kinds (object ms) = refl

pub as_text : (d : Data) (s : List ℕ) → as_str d ≡ Some s → fillable_text d ≡ Some s
as_text null s e = absurd cc
as_text (boolean b) s e = absurd cc
as_text (number n) s e = absurd cc
as_text (string t) s e = e
as_text (array ds) s e = absurd cc
as_text (object ms) s e = absurd cc

pub as_unsigned : (d : Data) (n : ℕ) → option_and_then as_u64 (as_number d) ≡ Some n → fillable_text d ≡ Some (decimal n)
as_unsigned null n e = absurd cc
as_unsigned (boolean b) n e = absurd cc
as_unsigned (number (unsigned m)) n e = let same : m ≡ n = cc in ap (λ (k : ℕ). Some (decimal k)) same
as_unsigned (number (negative z)) n e = absurd cc
as_unsigned (number (float x)) n e = absurd cc
as_unsigned (string t) n e = absurd cc
as_unsigned (array ds) n e = absurd cc
as_unsigned (object ms) n e = absurd cc

pub as_signed : (d : Data) (z : ℤ) → option_and_then as_u64 (as_number d) ≡ None → option_and_then as_i64 (as_number d) ≡ Some z → fillable_text d ≡ Some (signed_decimal z)
as_signed null z u e = absurd cc
as_signed (boolean b) z u e = absurd cc
as_signed (number (unsigned m)) z u e = absurd cc
as_signed (number (negative y)) z u e = let same : y ≡ z = cc in ap (λ (k : ℤ). Some (signed_decimal k)) same
as_signed (number (float x)) z u e = absurd cc
as_signed (string t) z u e = absurd cc
as_signed (array ds) z u e = absurd cc
as_signed (object ms) z u e = absurd cc

pub as_word : (d : Data) (b : Bool) → as_bool d ≡ Some b → fillable_text d ≡ Some (if b then codes "true" else codes "false")
as_word null b e = absurd cc
as_word (boolean c) b e = let same : c ≡ b = cc in ap (λ (k : Bool). Some (if k then codes "true" else codes "false")) same
as_word (number n) b e = absurd cc
as_word (string t) b e = absurd cc
as_word (array ds) b e = absurd cc
as_word (object ms) b e = absurd cc

pub as_nothing : (d : Data) → as_str d ≡ None → option_and_then as_u64 (as_number d) ≡ None → option_and_then as_i64 (as_number d) ≡ None → as_bool d ≡ None → fillable_text d ≡ None
as_nothing null s u i b = refl
as_nothing (boolean c) s u i b = absurd cc
as_nothing (number (unsigned m)) s u i b = absurd cc
as_nothing (number (negative y)) s u i b = absurd cc
as_nothing (number (float x)) s u i b = refl
as_nothing (string t) s u i b = absurd cc
as_nothing (array ds) s u i b = refl
as_nothing (object ms) s u i b = refl
