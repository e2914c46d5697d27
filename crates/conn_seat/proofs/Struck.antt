-- How pieces are struck from an inbox, for one stream or subscription after another.
use Rattle.std.proofs.Common.{ℕ, ◌+◌, ◌≡◌, ◌<◌, Bool, true, false, not, ◌&&◌, ◌||◌, List, [], ◌∷◌, ◌++◌, length, map, get_or, take, refl, ap, sym, ◌∙◌, arith}
use Rattle.std.specs.List.{filter, list_any}
use Rattle.std.proofs.lemmas.List.{take_more}
use Rattle.std.proofs.lemmas.List.Folds.{list_any-append}
use Rattle.cable_base.proofs.Filters.{filter-twice, filter-same, filter-none}
use Rattle.cable_model.specs.declared.pieces.Piece.{Piece}
use Rattle.cable_model.specs.Pieces.{Placed}
use Rattle.cable_model.specs.declared.plans.Change.{Change}
use Rattle.cable_model.specs.declared.plans.Change.TheVariants as change
use Rattle.run_queue.specs.Inboxes.{InboxQueue, Filters, Drops}
use Rattle.conn_core.specs.Subscriptions.{SubParts, Subscription, shown}
use Rattle.conn_core.proofs.Mapped.{any-map}
use Rattle.conn_seat.specs.Ends.{is_stopped_in, is_removed_with, ends}
use Rattle.conn_seat.specs.Seats.{Strikes, last_behind}

pub filter-every : {A : Type 0} (p : A → Bool) (xs : List A) → ((x : A) → p x ≡ true) → filter p xs ≡ xs
filter-every p [] h = refl
filter-every p (x ∷ xs) h = rw (h x) (ap (λ ys. x ∷ ys) (filter-every p xs h))

-- where no piece is struck, the inbox stays as it is
pub no-strike : (f : Piece → Bool) (q : InboxQueue) → ((p : Piece) → f p ≡ false) → Filters (λ p. not (f p)) q q
no-strike f q h = record { waiting = sym (filter-every (λ p. not (f p.piece)) q.waiting (λ p. ap not (h p.piece))); last = refl; taken = refl; spare = omega arith }

or-both : (a b : Bool) → not (a || (b || false)) ≡ (not a && not b)
or-both true b = refl
or-both false true = refl
or-both false false = refl

-- one more is done
pub strike-more : {A : Type 0} (f : A → Piece → Bool) (xs : List A) (i : ℕ) (x : A) (start old new : InboxQueue) → i < length xs → x ≡ get_or xs i x
    → Filters (λ p. not (list_any (λ y. f y p) (take i xs))) start old → Filters (λ p. not (f x p)) old new
    → Filters (λ p. not (list_any (λ y. f y p) (take (i + 1) xs))) start new
strike-more {A} f xs i x start old new l e a b =
    let more : take (i + 1) xs ≡ take i xs ++ x ∷ [] = take_more xs i x l ∙ ap (λ y. take i xs ++ y ∷ []) (sym e) in
    let both : (p : Placed) → not (list_any (λ y. f y p.piece) (take (i + 1) xs)) ≡ (not (list_any (λ y. f y p.piece) (take i xs)) && not (f x p.piece)) = λ p.
    ap (λ ys. not (list_any (λ y. f y p.piece) ys)) more ∙ (ap not (list_any-append (λ y. f y p.piece) (take i xs) (x ∷ [])) ∙ or-both (list_any (λ y. f y p.piece) (take i xs)) (f x p.piece)) in
    record {
      waiting =
          b.waiting
          ∙ (ap (filter (λ (p : Placed). not (f x p.piece))) a.waiting
          ∙ (filter-twice (λ (p : Placed). not (list_any (λ y. f y p.piece) (take i xs))) (λ (p : Placed). not (f x p.piece)) start.waiting
          ∙ sym (filter-same (λ (p : Placed). not (list_any (λ y. f y p.piece) (take (i + 1) xs))) (λ (p : Placed). not (list_any (λ y. f y p.piece) (take i xs)) && not (f x p.piece)) start.waiting both)));
      last = b.last ∙ a.last;
      taken = b.taken ∙ a.taken;
      spare = omega (arith, a.spare, b.spare);
    }

-- where the test doesn't hold, nothing is struck
pub unstruck : (b : Bool) (f : Piece → Bool) (q : InboxQueue) → b ≡ false → Filters (λ p. not (b && f p)) q q
unstruck b f q e = no-strike (λ p. b && f p) q (λ p. ap (λ x. x && f p) e)

pub unstruck-yet : {A : Type 0} (f : A → Piece → Bool) (xs : List A) (q : InboxQueue) → Filters (λ p. not (list_any (λ y. f y p) (take 0 xs))) q q
unstruck-yet f xs q = no-strike (λ p. false) q (λ p. refl)

-- ---- by a change

pub strikes-none : (c : Change) (subs : List Subscription) (q : InboxQueue) → ((p : Piece) → ends c subs p ≡ false) → last_behind c q.taken q.last ≡ q.last → Strikes c subs q q
strikes-none c subs q h l = record { waiting = sym (filter-every (λ p. not (ends c subs p.piece)) q.waiting (λ p. ap not (h p.piece))); last = sym l; taken = refl; spare = omega arith }

pub strikes-stopped : (identifier : List ℕ) (stops streams : List (List ℕ)) (subs : List SubParts) (old new : InboxQueue)
    → Filters (λ p. not (list_any (λ s. is_stopped_in identifier stops (shown s) p) subs)) old new → Strikes (change.Streams identifier stops streams) (map shown subs) old new
strikes-stopped identifier stops streams subs old new f =
    record {
      waiting =
          f.waiting
          ∙ filter-same (λ (p : Placed). not (list_any (λ (s : SubParts). is_stopped_in identifier stops (shown s) p.piece) subs)) (λ (p : Placed). not (list_any (λ (s : Subscription). is_stopped_in identifier stops s p.piece) (map shown subs))) old.waiting
          (λ p. ap not (sym (any-map shown (λ (s : Subscription). is_stopped_in identifier stops s p.piece) subs)));
      last = f.last;
      taken = f.taken;
      spare = f.spare;
    }

pub strikes-removed : (identifier : List ℕ) (subs : List SubParts) (old new : InboxQueue)
    → Filters (λ p. not (list_any (λ s. is_removed_with identifier (shown s) p) subs)) old new → Strikes (change.Remove identifier) (map shown subs) old new
strikes-removed identifier subs old new f =
    record {
      waiting =
          f.waiting
          ∙ filter-same (λ (p : Placed). not (list_any (λ (s : SubParts). is_removed_with identifier (shown s) p.piece) subs)) (λ (p : Placed). not (list_any (λ (s : Subscription). is_removed_with identifier s p.piece) (map shown subs))) old.waiting
          (λ p. ap not (sym (any-map shown (λ (s : Subscription). is_removed_with identifier s p.piece) subs)));
      last = f.last;
      taken = f.taken;
      spare = f.spare;
    }

pub strikes-all : (subs : List Subscription) (old new : InboxQueue) → Drops old new → Strikes change.Close subs old new
strikes-all subs old new d = record { waiting = d.waiting ∙ sym (filter-none (λ (p : Placed). not (ends change.Close subs p.piece)) old.waiting (λ p. refl)); last = d.last; taken = d.taken; spare = d.spare }
