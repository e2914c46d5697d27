-- A source that is read piece by piece.
use Rattle.std.proofs.Common.{◌≡◌, ℕ, ◌+◌, ◌≤◌, ◌<◌, List, [], ◌++◌, length, Option, Err, Ok, refl, subst, arith, append-nil, length-append}
use Rattle.std.specs.Io.KnownBytes.{Appends, Consumes, IsAtEnd, Keeps}
use Rattle.std.proofs.KnownBytes.{Appends-nil, Appends-trans, Consumes-nil, Consumes-trans, Consumes-kept}
use Rattle.cable_base.specs.Causes.{Rose}
use Rattle.cable_model.specs.declared.statuses.Status.{Status}
use Rattle.cable_model.specs.declared.statuses.Status.TheVariants as status
use Rattle.cable_model.specs.Limits.{most_script}
use Rattle.replay_cli.specs.declared.modes.Mode.{Mode}
use Rattle.replay_cli.specs.declared.replaying.Replaying.{Replaying}
use Rattle.replay_cli.specs.Inputs.{Reading}
use Rattle.replay_cli.specs.Reading.{HasRead, Flushes, PieceRefused, ReadRefused, ReadDoes}
use Rattle.replay_cli.proofs.LinesGoOn.{of_line}
use Rattle.replay_cli.proofs.PiecesRead.{writing, Rose-later, flushed}
use Rattle.replay_cli.proofs.PiecesTaken.{Does}

abbrev pub reading : (l l' : Option (List ℕ)) (e e' f f' : ℕ) → Reading
reading l l' e e' f f' = record { left = l; left_behind = l'; ends = e; ends_behind = e'; faults = f; faults_behind = f' }

-- so many bytes came from the source, and were taken
pub record Reached (l l' t t' : Option (List ℕ)) (count : ℕ) (now : Replaying) : Type 0 where
  pub given : List ℕ
  pub taken : List ℕ
  pub gave : Consumes l l' given
  pub took : Appends t t' taken
  pub read : HasRead given taken now
  pub len : length given ≡ count

-- nothing came yet
pub reached_none : (l t : Option (List ℕ)) (now : Replaying) → HasRead [] [] now → Reached l l t t 0 now
reached_none l t now r = record { given = []; taken = []; gave = Consumes-nil l; took = Appends-nil t; read = r; len = refl }

-- further bytes came, and were taken
pub reached_more : (l0 l1 l2 t0 t1 t2 : Option (List ℕ)) (f1 f2 count count' : ℕ) (bytes : List ℕ) (mid new : Replaying) → Reached l0 l1 t0 t1 count mid → Consumes l1 l2 bytes
    → Does bytes (writing t1 t2 f1 f2) mid new (Ok tt) → count' ≡ count + length bytes → Reached l0 l2 t0 t2 count' new
reached_more l0 l1 l2 t0 t1 t2 f1 f2 count count' bytes mid new k gave does e =
    let q = does k.given k.taken k.read in
    record {
      given = k.given ++ bytes;
      taken = k.taken ++ q.0;
      gave = Consumes-trans l0 l1 l2 k.given bytes k.gave gave;
      took = Appends-trans t0 t1 t2 k.taken q.0 k.took q.1.0;
      read = q.1.1;
      len = let n = k.len in omega (arith, length-append k.given bytes);
    }

-- what is to be written was written
pub reached_flushed : (l0 l1 t0 t1 t2 : Option (List ℕ)) (f1 f2 count : ℕ) (mid new : Replaying) → Reached l0 l1 t0 t1 count mid → Flushes (writing t1 t2 f1 f2) mid new (Ok tt) → Reached l0 l1 t0 t2 count new
reached_flushed l0 l1 t0 t1 t2 f1 f2 count mid new k e =
    reached_more l0 l1 l1 t0 t1 t2 f1 f2 count count [] mid new k (Consumes-nil l1) (λ x y h. flushed (writing t1 t2 f1 f2) x y mid new (Ok tt) e h) (omega arith)

-- ---- reading ends

-- the bytes that came are refused
refused_read : (m : Mode) (given taken : List ℕ) (l0 l2 t0 t1 t2 : Option (List ℕ)) (e0 e2 g0 g2 f0 f1 f2 : ℕ) (new : Replaying) (s : Status) → f0 ≤ f1 → length given ≤ most_script
    → Consumes l0 l2 given → Appends t0 t2 taken → PieceRefused m given taken (writing t1 t2 f1 f2) new s → ReadRefused m (reading l0 l2 e0 e2 g0 g2) (writing t0 t2 f0 f2) new s
refused_read m given taken l0 l2 t0 t1 t2 e0 e2 g0 g2 f0 f1 f2 new status.WriteFault le few gave took r = (given, taken, (gave, took, Rose-later f0 f1 f2 le r.0, r.1))
refused_read m given taken l0 l2 t0 t1 t2 e0 e2 g0 g2 f0 f1 f2 new status.OutOfMemory le few gave took r = (given, taken, (gave, took, r))
refused_read m given taken l0 l2 t0 t1 t2 e0 e2 g0 g2 f0 f1 f2 new status.ReadFault le few gave took r = absurd (of_line r.0 r.1.0.refuses.0 status.ReadFault r.1.0.refuses.1.1)
refused_read m given taken l0 l2 t0 t1 t2 e0 e2 g0 g2 f0 f1 f2 new status.TooMuch le few gave took r = absurd (of_line r.0 r.1.0.refuses.0 status.TooMuch r.1.0.refuses.1.1)
refused_read m given taken l0 l2 t0 t1 t2 e0 e2 g0 g2 f0 f1 f2 new s le few gave took r = (given, taken, r.0, (record { gave = gave; few = few }, took, r.1.0, r.1.1))

pub read_refused : (m : Mode) (l0 l1 l2 t0 t1 t2 : Option (List ℕ)) (e0 e2 g0 g2 f0 f1 f2 count : ℕ) (bytes : List ℕ) (mid new : Replaying) (s : Status) → mid.mode ≡ m → f0 ≤ f1
    → count + length bytes ≤ most_script → Reached l0 l1 t0 t1 count mid → Consumes l1 l2 bytes → Does bytes (writing t1 t2 f1 f2) mid new (Err s)
    → ReadDoes m (reading l0 l2 e0 e2 g0 g2) (writing t0 t2 f0 f2) new (Err s)
read_refused m l0 l1 l2 t0 t1 t2 e0 e2 g0 g2 f0 f1 f2 count bytes mid new s mode le few k gave does =
    let q = does k.given k.taken k.read in
    let n = k.len in
    refused_read m (k.given ++ bytes) (k.taken ++ q.0) l0 l2 t0 t1 t2 e0 e2 g0 g2 f0 f1 f2 new s le (omega (arith, length-append k.given bytes))
    (Consumes-trans l0 l1 l2 k.given bytes k.gave gave) (Appends-trans t0 t1 t2 k.taken q.0 k.took q.1.0)
    (subst (λ (x : Mode). PieceRefused x (k.given ++ bytes) (k.taken ++ q.0) (writing t1 t2 f1 f2) new s) mode q.1.1)

-- the sink failed before it was asked
pub flush_refused : (m : Mode) (l0 l1 t0 t1 t2 : Option (List ℕ)) (e0 e2 g0 g2 f0 f1 f2 count : ℕ) (mid new : Replaying) (s : Status) → mid.mode ≡ m → f0 ≤ f1
    → count ≤ most_script → Reached l0 l1 t0 t1 count mid → Flushes (writing t1 t2 f1 f2) mid new (Err s) → ReadDoes m (reading l0 l1 e0 e2 g0 g2) (writing t0 t2 f0 f2) new (Err s)
flush_refused m l0 l1 t0 t1 t2 e0 e2 g0 g2 f0 f1 f2 count mid new s mode le few k e =
    read_refused m l0 l1 l1 t0 t1 t2 e0 e2 g0 g2 f0 f1 f2 count [] mid new s mode le (omega arith) k (Consumes-nil l1) (λ x y h. flushed (writing t1 t2 f1 f2) x y mid new (Err s) e h)

-- the source failed
pub read_failed : (m : Mode) (l0 l1 l2 t0 t1 : Option (List ℕ)) (e0 e2 g0 g1 g2 f0 f1 count : ℕ) (now : Replaying) → g0 ≤ g1 → count ≤ most_script → Reached l0 l1 t0 t1 count now → Keeps l1 l2 → Rose g1 g2
    → ReadDoes m (reading l0 l2 e0 e2 g0 g2) (writing t0 t1 f0 f1) now (Err status.ReadFault)
read_failed m l0 l1 l2 t0 t1 e0 e2 g0 g1 g2 f0 f1 count now le few k kept rose =
    let n = k.len in
    (k.given, k.taken, (record { gave = Consumes-kept l0 l1 l2 k.given k.gave kept; few = omega arith }, k.took, Rose-later g0 g1 g2 le rose, k.read))

-- it was read to its end
pub read_whole : (m : Mode) (l0 l1 l2 t0 t1 : Option (List ℕ)) (e0 e1 e2 g0 g2 f0 f1 count : ℕ) (now : Replaying) → e0 ≤ e1 → count ≤ most_script → Reached l0 l1 t0 t1 count now
    → Consumes l1 l2 [] → IsAtEnd l2 → Rose e1 e2 → ReadDoes m (reading l0 l2 e0 e2 g0 g2) (writing t0 t1 f0 f1) now (Ok tt)
read_whole m l0 l1 l2 t0 t1 e0 e1 e2 g0 g2 f0 f1 count now le few k gave end rose =
    let n = k.len in (
      k.given,
      k.taken,
      (
        record {
          gave = record { gave = subst (Consumes l0 l2) (append-nil k.given) (Consumes-trans l0 l1 l2 k.given [] k.gave gave); few = omega arith };
          ended = Rose-later e0 e1 e2 le rose;
          nothing_left = end;
        },
        k.took,
        k.read,
      ),
    )

-- it gave too much
pub read_too_much : (m : Mode) (l0 l1 l2 t0 t1 : Option (List ℕ)) (e0 e2 g0 g2 f0 f1 count : ℕ) (bytes : List ℕ) (now : Replaying) → count ≤ most_script → most_script < count + length bytes
    → Reached l0 l1 t0 t1 count now → Consumes l1 l2 bytes → ReadDoes m (reading l0 l2 e0 e2 g0 g2) (writing t0 t1 f0 f1) now (Err status.TooMuch)
read_too_much m l0 l1 l2 t0 t1 e0 e2 g0 g2 f0 f1 count bytes now few many k gave =
    let n = k.len in
    (k.given, bytes, k.taken, (Consumes-trans l0 l1 l2 k.given bytes k.gave gave, omega arith, omega (arith, length-append k.given bytes), k.took, k.read))
