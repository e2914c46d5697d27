-- What pieces that were written one behind the other come to.
use Rattle.std.proofs.Common.{◌≡◌, ℕ, ◌+◌, ◌-◌, ◌≤◌, List, length, take, drop, take-add, take-append-drop, Option, None, Some, Err, refl, ◌∙◌, arith}
use Rattle.std.proofs.lemmas.List.{take_rest}
use Rattle.std.specs.Result.{IsErrOf}
use Rattle.std.specs.Io.KnownBytes.{Appends, Keeps}
use Rattle.std.proofs.KnownBytes.{Appends-trans}
use Rattle.cable_base.specs.declared.faults.Trouble.{Trouble}
use Rattle.cable_base.specs.declared.faults.Trouble.TheVariants as trouble
use Rattle.cable_base.specs.Causes.{Rose}
use Rattle.replay_cli.specs.Outputs.{Writes}

pub write_step : (t0 t1 t2 : Option (List ℕ)) (bytes : List ℕ) (at n : ℕ) → Appends t0 t1 (take at bytes) → Appends t1 t2 (take n (take (length bytes - at) (drop at bytes))) → Appends t0 t2 (take (at + n) bytes)
write_step t0 t1 t2 bytes at n p q =
    let rest = rw take_rest at q in
    rw take-add (Appends-trans t0 t1 t2 (take at bytes) (take n (drop at bytes)) p rest)

pub Appends-kept : (a b c : Option (List ℕ)) (bs : List ℕ) → Appends a b bs → Keeps b c → Appends a c bs
Appends-kept None b c bs p q = tt
Appends-kept (Some x) None c bs p q = absurd p
Appends-kept (Some x) (Some y) None bs p q = absurd q
Appends-kept (Some x) (Some y) (Some z) bs p q = q ∙ p

-- a call was refused: what was taken is the front up to here
pub write_refused : (t0 t1 t2 : Option (List ℕ)) (f0 f1 f2 : ℕ) (bytes : List ℕ) (at : ℕ) (f : Trouble)
    → Appends t0 t1 (take at bytes) → Keeps t1 t2 → f0 ≤ f1 → (f ≡ trouble.Failed → Rose f1 f2)
    → Writes (record { taken = t0; taken_behind = t2; faults = f0; faults_behind = f2 }) bytes (Err f)
write_refused t0 t1 t2 f0 f1 f2 bytes at trouble.Failed p q le rose =
    (take at bytes, Appends-kept t0 t1 t2 (take at bytes) p q, (drop at bytes, take-append-drop at bytes), let rises : Rose f1 f2 = rose refl in omega arith)
write_refused t0 t1 t2 f0 f1 f2 bytes at trouble.OutOfMemory p q le rose =
    (take at bytes, Appends-kept t0 t1 t2 (take at bytes) p q, (drop at bytes, take-append-drop at bytes))

pub err_is : (f g : Trouble) → f ≡ g → IsErrOf {T = ℕ} {E = Trouble} (Err f) g
err_is f g e = cc
