-- The first name of a book that stood before, channel by channel.
use Rattle.std.proofs.Common.{◌≡◌, ℕ, Bool, true, false, cond, ◌||◌, List, [], ◌∷◌, ◌++◌, Option, Some, None, refl, sym, ap, subst, ◌∙◌, append_assoc, append-nil, ◌⊎◌, inl, inr}
use Rattle.std.specs.Prelude.{map, bytes_eq}
use Rattle.std.specs.List.{AllByRecursion, list_any}
use Rattle.std.specs.Option.{option_or}
use Rattle.std.proofs.lemmas.List.{map-append}
use Rattle.channel_book.specs.declared.declarations.Action.{Action}
use Rattle.channel_book.specs.declared.declarations.Channel.{Channel}
use Rattle.channel_book.specs.Names.{is_named, first_repeat}
use Rattle.channel_book.specs.Books.{repeated_from, repeated_in}
use Rattle.channel_book_laws.specs.Lists.{IsAmong, AreDistinct}
use Rattle.channel_book_laws.specs.Texts.{channel_names, action_names, AreNamedApart, IsFirstRepeat, IsRepeatAt, IsFirstRepeatIn}
use Rattle.channel_book_laws.proofs.Names.{itself, Decides-among, not_stood, AreNew, new_none, new_front, Told, told}
use Rattle.channel_book_laws.proofs.Splits.{same, behind, ahead, places, all_at}

-- ---- items by their names

named_in : {X : Type 0} (name_of : X → List ℕ) (name : List ℕ) (xs : List X) → list_any (is_named name_of name) xs ≡ list_any (is_named itself name) (map name_of xs)
named_in name_of name [] = refl
named_in name_of name (x ∷ xs) = ap (λ (b : Bool). bytes_eq (name_of x) name || b) (named_in name_of name xs)

repeat_named : {X : Type 0} (name_of : X → List ℕ) (before xs : List X) → first_repeat name_of before xs ≡ first_repeat itself (map name_of before) (map name_of xs)
repeat_named name_of before [] = refl
repeat_named name_of before (x ∷ xs) =
    ap (λ (b : Bool). cond b (Some (name_of x)) (first_repeat name_of (before ++ x ∷ []) xs)) (named_in name_of (name_of x) before)
    ∙ ap (λ (o : Option (List ℕ)). cond (list_any (is_named itself (name_of x)) (map name_of before)) (Some (name_of x)) o)
    (repeat_named name_of (before ++ x ∷ []) xs ∙ ap (λ (names : List (List ℕ)). first_repeat itself names (map name_of xs)) (map-append name_of before (x ∷ [])))

-- ---- what the search tells

abbrev ActionsApart : Channel → Type 0
ActionsApart channel = AreDistinct (action_names channel)

-- the channel has a name that stood before, behind channels of these names
abbrev RepeatsAt : List (List ℕ) → Channel → List ℕ → Type 0
RepeatsAt names channel name = ((channel.name ≡ name) × IsAmong names name) ⊎ ((¬ IsAmong names channel.name) × IsFirstRepeat (action_names channel) name)

record RepeatsFrom (first : List (List ℕ)) (channels : List Channel) (name : List ℕ) : Type 0 where
  before : List Channel
  channel : Channel
  after : List Channel
  split : channels ≡ before ++ channel ∷ after
  new : AreNew first (channel_names before)
  actions : AllByRecursion ActionsApart before
  repeat : RepeatsAt (first ++ channel_names before) channel name

abbrev ToldFrom : List (List ℕ) → List Channel → Option (List ℕ) → Type 0
ToldFrom first channels None = AreNew first (channel_names channels) × AllByRecursion ActionsApart channels
ToldFrom first channels (Some name) = RepeatsFrom first channels name

next_told : (names : List (List ℕ)) (c : Channel) (cs : List Channel) (b : Bool) → list_any (is_named itself c.name) names ≡ b → (o : Option (List ℕ)) → Told [] (action_names c) o → (more : Option (List ℕ)) → ToldFrom (names ++ c.name ∷ []) cs more
    → ToldFrom names (c ∷ cs) (cond b (Some c.name) (option_or o more))
next_told names c cs true e o inside more again =
    let stood : IsAmong (names ++ []) c.name = subst (λ (ns : List (List ℕ)). IsAmong ns c.name) (sym (append-nil names)) ((Decides-among names c.name).0 e) in
    record { before = []; channel = c; after = cs; split = refl; new = new_none names; actions = tt; repeat = inl (refl, stood) }
next_told names c cs false e (Some name) inside more again =
    let fresh : ¬ IsAmong names c.name = not_stood (list_any (is_named itself c.name) names) (Decides-among names c.name) e in
    record {
      before = [];
      channel = c;
      after = cs;
      split = refl;
      new = new_none names;
      actions = tt;
      repeat = inr (subst (λ (ns : List (List ℕ)). ¬ IsAmong ns c.name) (sym (append-nil names)) fresh, record { before = inside.before; after = inside.after; split = inside.split; stood = inside.stood; distinct = inside.new });
    }
next_told names c cs false e None inside None again =
    let fresh : ¬ IsAmong names c.name = not_stood (list_any (is_named itself c.name) names) (Decides-among names c.name) e in
    (new_front names (channel_names cs) c.name fresh again.0, (inside, again.1))
next_told names c cs false e None inside (Some name) again =
    let fresh : ¬ IsAmong names c.name = not_stood (list_any (is_named itself c.name) names) (Decides-among names c.name) e in
    record {
      before = c ∷ again.before;
      channel = again.channel;
      after = again.after;
      split = ap (λ (xs : List Channel). c ∷ xs) again.split;
      new = new_front names (channel_names again.before) c.name fresh again.new;
      actions = (inside, again.actions);
      repeat = subst (λ (ns : List (List ℕ)). RepeatsAt ns again.channel name) (append_assoc names (c.name ∷ []) (channel_names again.before)) again.repeat;
    }

told_from : (before channels : List Channel) → ToldFrom (channel_names before) channels (repeated_from before channels)
told_from before [] = (new_none (channel_names before), tt)
told_from before (c ∷ cs) =
    let names = channel_names before in
    let more = repeated_from (before ++ c ∷ []) cs in
    let again : ToldFrom (names ++ c.name ∷ []) cs more = subst (λ (ns : List (List ℕ)). ToldFrom ns cs more) (map-append (λ (x : Channel). x.name) before (c ∷ [])) (told_from (before ++ c ∷ []) cs) in
    subst (λ (b : Bool). ToldFrom names (c ∷ cs) (cond b (Some c.name) (option_or (first_repeat (λ (a : Action). a.name) [] c.rules.actions) more))) (sym (named_in (λ (x : Channel). x.name) c.name before))
    (subst (λ (o : Option (List ℕ)). ToldFrom names (c ∷ cs) (cond (list_any (is_named itself c.name) names) (Some c.name) (option_or o more))) (sym (repeat_named (λ (a : Action). a.name) [] c.rules.actions))
    (next_told names c cs (list_any (is_named itself c.name) names) refl (first_repeat itself [] (action_names c)) (told [] (action_names c)) more again))

abbrev pub RepeatedTold : List Channel → Option (List ℕ) → Type 0
RepeatedTold channels None = AreNamedApart channels
RepeatedTold channels (Some name) = IsFirstRepeatIn channels name

pub repeated_told : (channels : List Channel) → RepeatedTold channels (repeated_in channels)
repeated_told channels = of_all (repeated_in channels) (told_from [] channels)
  where
    of_all : (o : Option (List ℕ)) → ToldFrom [] channels o → RepeatedTold channels o
    of_all None t = record { names = t.0; actions = t.1 }
    of_all (Some name) t = record { before = t.before; channel = t.channel; after = t.after; split = t.split; apart = record { names = t.new; actions = t.actions }; repeat = t.repeat }

-- ---- it is the only answer

first_repeat_one : (names : List (List ℕ)) (p q : List ℕ) → IsFirstRepeat names p → IsFirstRepeat names q → p ≡ q
first_repeat_one names p q v w =
    elim (places v.before w.before v.after w.after p q (sym v.split ∙ w.split)) [
      | same b s ↦ s
      | behind between b ↦ absurd (v.distinct w.before between q b w.stood)
      | ahead between b ↦ absurd (w.distinct v.before between p b v.stood)
    ]

-- where names are apart, none stood before
apart_or_repeat : (before after : List Channel) (c : Channel) (name : List ℕ) → AreNamedApart (before ++ c ∷ after) → IsRepeatAt before c name → ⊥
apart_or_repeat before after c name apart repeat =
    let fresh : ¬ IsAmong (channel_names before) c.name = apart.names (channel_names before) (channel_names after) c.name (map-append (λ (x : Channel). x.name) before (c ∷ after)) in
    elim repeat [
      | inl w ↦ fresh (subst (λ (n : List ℕ). IsAmong (channel_names before) n) (sym w.0) w.1)
      | inr w ↦ all_at ActionsApart before after c apart.actions w.1.before w.1.after name w.1.split w.1.stood
    ]

repeat_at_one : (before : List Channel) (c : Channel) (p q : List ℕ) → IsRepeatAt before c p → IsRepeatAt before c q → p ≡ q
repeat_at_one before c p q (inl v) (inl w) = sym v.0 ∙ w.0
repeat_at_one before c p q (inl v) (inr w) = absurd (w.0 (subst (λ (n : List ℕ). IsAmong (channel_names before) n) (sym v.0) v.1))
repeat_at_one before c p q (inr v) (inl w) = absurd (v.0 (subst (λ (n : List ℕ). IsAmong (channel_names before) n) (sym w.0) w.1))
repeat_at_one before c p q (inr v) (inr w) = first_repeat_one (action_names c) p q v.1 w.1

repeat_in_one : (channels : List Channel) (p q : List ℕ) → IsFirstRepeatIn channels p → IsFirstRepeatIn channels q → p ≡ q
repeat_in_one channels p q v w =
    elim (places v.before w.before v.after w.after v.channel w.channel (sym v.split ∙ w.split)) [
      | same b s ↦ repeat_at_one w.before w.channel p q (subst (λ (x : Channel). IsRepeatAt w.before x p) s (subst (λ (xs : List Channel). IsRepeatAt xs v.channel p) b v.repeat)) w.repeat
      | behind between b ↦ absurd (apart_or_repeat w.before between w.channel q (subst AreNamedApart b v.apart) w.repeat)
      | ahead between b ↦ absurd (apart_or_repeat v.before between v.channel p (subst AreNamedApart b w.apart) v.repeat)
    ]

pub repeated_one : (channels : List Channel) (p q : Option (List ℕ)) → RepeatedTold channels p → RepeatedTold channels q → p ≡ q
repeated_one channels None None v w = refl
repeated_one channels None (Some q) v w = absurd (apart_or_repeat w.before w.after w.channel q (subst AreNamedApart w.split v) w.repeat)
repeated_one channels (Some p) None v w = absurd (apart_or_repeat v.before v.after v.channel p (subst AreNamedApart v.split w) v.repeat)
repeated_one channels (Some p) (Some q) v w = ap (λ (n : List ℕ). Some n) (repeat_in_one channels p q v w)
