-- What a node keeps goes on standing for its journal, entry by entry: what is alike for all entries.
use Rattle.std.proofs.Common.{◌≡◌, ℕ, ◌==◌, true, false, not, ◌&&◌, List, ◌∷◌, Option, Some, None, refl, sym, ap, subst, ◌∙◌, inl, inr}
use Rattle.std.specs.Prelude.{is_some}
use Rattle.std.specs.List.{list_any, AllByRecursion}
use Rattle.std.specs.Ordering.{nat_cmp}
use Rattle.std.specs.BTreeMap.{is_at}
use Rattle.std.specs.Map.{keys_of}
use Rattle.std.proofs.lemmas.Bool.{cases_eq}
use Rattle.std.proofs.lemmas.Map.{keys-set_value}
use Rattle.std.proofs.lemmas.Map.Made.{is_some-lookup}
use Rattle.std.specs.List.Sorted.{IsStrictlySortedBy}
use Rattle.cable_model.specs.Pieces.{seat, unseated, closing}
use Rattle.cable_model.specs.Possible.{opened, is_opened, has_job}
use Rattle.cable_model.specs.Steps.{Step}
use Rattle.cable_model.specs.Wants.{user_of, marks, mark_of, Mark}
use Rattle.cable_model.specs.Pieces as model
use Rattle.cable_model.specs.Journal.{is_of}
use Rattle.conn_seat.specs.Seated.{Shows, is_of_all}
use Rattle.node_seats.specs.Numbers.{Numbers, Opened, opened_at, with_opened}
use Rattle.node_seats.specs.AreSeats.{IsOpened, AreSeats, Leaves}
use Rattle.node_seats.proofs.Lookups.{at-is, each-entry, found-there, found-elsewhere, any-same}

-- ---- whether a number was opened

pub used-is : (past : List Step) (v : Numbers) (c : ℕ) → AreSeats past v → is_some (opened_at c v) ≡ is_opened c past
used-is past v c a =
    is_some-lookup (is_at (nat_cmp c)) v ∙ any-same (is_at (nat_cmp c)) (λ d. d == c) (at-is c) (keys_of v) ∙ ap (λ ks. list_any (λ d. d == c) ks) a.numbers

none-is : (o : Option Opened) → is_some o ≡ false → o ≡ None
none-is None e = refl
none-is (Some x) e = absurd cc

pub unused-is : (past : List Step) (v : Numbers) (c : ℕ) → AreSeats past v → is_opened c past ≡ false → opened_at c v ≡ None
unused-is past v c a e = none-is (opened_at c v) (used-is past v c a ∙ e)

-- ---- a connection of which the journal says the same

pub leaves-it : (c : ℕ) (past now : List Step) (o : Opened) → Leaves c past now → IsOpened c past o → IsOpened c now o
leaves-it c past now (Opened.Live s) l h = (
  record {
    user = l.user ∙ h.0.user;
    shows = subst (λ (ms : List Mark). Shows (λ w. mark_of w ms) (seat c now) s) (sym l.marked) (subst (λ (x : model.Seat). Shows (λ w. mark_of w (marks c past)) x s) (sym l.seated) h.0.shows);
  },
  h.1,
)
leaves-it c past now Opened.Over l h =
    record {
      live = ap (λ (o : Option (List ℕ)). is_some o && not (seat c now).conn.over) l.user ∙ ap (λ (x : model.Seat). is_some (user_of c past) && not x.conn.over) l.seated ∙ h.live;
      job = ap has_job l.seated ∙ h.job;
      closed = λ u. ap (λ (x : model.Seat). closing x.pieces) l.seated ∙ h.closed (sym (ap is_some l.user) ∙ u);
    }

-- an entry of another connection, and one of the node that neither puts nor places anything
pub leaves-other : (c : ℕ) (e : Step) (past : List Step) → is_of c e ≡ false → is_of_all e ≡ false → Leaves c past (e ∷ past)
leaves-other c (Step.Boot last) past e all = record { user = refl; seated = refl; marked = refl }
leaves-other c (Step.Open d token user) past e all = record { user = rw e refl; seated = refl; marked = refl }
leaves-other c Step.Stop past e all = absurd cc
leaves-other c (Step.Ask turn) past e all = record { user = refl; seated = refl; marked = refl }
leaves-other c (Step.Deliver turn note) past e all = absurd cc
leaves-other c (Step.Beat now) past e all = record { user = refl; seated = refl; marked = refl }
leaves-other c _ past e all = record { user = refl; seated = rw e refl; marked = refl }

-- ---- all of them

-- nothing is kept otherwise
pub onward : (past now : List Step) (v : Numbers) → opened now ≡ opened past → ((c : ℕ) → Leaves c past now) → AreSeats past v → AreSeats now v
onward past now v same leaves a =
    record {
      numbers = a.numbers ∙ sym same;
      rising = a.rising;
      each = λ c o at. leaves-it c past now o (leaves c) (a.each c o at);
      unopened = λ c e. (leaves c).seated ∙ a.unopened c (sym (ap (λ ks. list_any (λ d. d == c) ks) same) ∙ e);
    }

pub some-is : (o p : Opened) → Some o ≡ Some p → o ≡ p
some-is o p e = cc e

-- another thing is kept of one number
pub moved : (c : ℕ) (past now : List Step) (v : Numbers) (o p : Opened) → opened now ≡ opened past → ((d : ℕ) → (c ≡ d → ⊥) → Leaves d past now) → AreSeats past v
    → opened_at c v ≡ Some p → IsOpened c now o → AreSeats now (with_opened c o v)
moved c past now v o p same leaves a at mine =
    record {
      numbers = keys-set_value (is_at (nat_cmp c)) v o ∙ a.numbers ∙ sym same;
      rising = subst (IsStrictlySortedBy nat_cmp) (sym (keys-set_value (is_at (nat_cmp c)) v o)) a.rising;
      each = λ d q found. elim (cases_eq c d) [
        | inl e ↦ subst (λ (x : ℕ). opened_at x (with_opened c o v) ≡ Some q → IsOpened x now q) e
            (λ f. subst (IsOpened c now) (some-is o q (sym (found-there c o p v at) ∙ f)) mine) found
        | inr apart ↦ leaves-it d past now q (leaves d apart) (a.each d q (sym (found-elsewhere c d o v apart) ∙ found))
      ];
      unopened = λ d e. elim (cases_eq c d) [
        | inl f ↦ absurd (let shut : is_opened c past ≡ false = subst (λ (x : ℕ). is_opened x past ≡ false) (sym f) (before d e) in
            let open_ : is_opened c past ≡ true = sym (used-is past v c a) ∙ ap is_some at in
            let no_way : true ≡ false = sym open_ ∙ shut in cc)
        | inr apart ↦ (leaves d apart).seated ∙ a.unopened d (before d e)
      ];
    }
  where
    before : (d : ℕ) → is_opened d now ≡ false → is_opened d past ≡ false
    before d e = sym (ap (λ ks. list_any (λ x. x == d) ks) same) ∙ e

-- ---- one number after the other

pub entries : (past : List Step) (v : Numbers) → AreSeats past v → AllByRecursion (λ (e : ℕ × Opened). IsOpened e.0 past e.1) v
entries past v a = each-entry (λ c o. IsOpened c past o) v a.rising a.each
