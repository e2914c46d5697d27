-- The table of the lines of a session script: how each verb is written, and which words stand behind it.
use Rattle.std.specs.Prelude.{◌≡◌, ◌⊎◌, ℕ, false, ◌==◌, List, [], ◌∷◌, ◌++◌, codes, decimal}
use Rattle.std.specs.List.{list_any}
use Rattle.cable_base.specs.declared.numbers.ConnNo.{ConnNo}
use Rattle.cable_base.specs.declared.numbers.NodeNo.{NodeNo}
use Rattle.cable_base.specs.declared.numbers.Millis.{Millis}
use Rattle.cable_model.specs.Limits.{most_batch, most_puts}
use Rattle.cable_model.specs.Script.{spaced, IsWord, IsFrom, IsNode, IsConn, IsMoment}
use Rattle.cable_model.specs.declared.verb_names.VerbName.{VerbName}
use Rattle.cable_model.specs.declared.verb_names.VerbName.TheVariants as name

-- how each verb is written
abbrev pub spelling : VerbName → List ℕ
spelling name.Boot = codes "boot"
spelling name.Open = codes "open"
spelling name.In = codes "in"
spelling name.Drop = codes "drop"
spelling name.Stop = codes "stop"
spelling name.Take = codes "take"
spelling name.Put = codes "put"
spelling name.Finish = codes "finish"
spelling name.Work = codes "work"
spelling name.Cast = codes "cast"
spelling name.Trim = codes "trim"
spelling name.Ask = codes "ask"
spelling name.Read = codes "read"
spelling name.Deliver = codes "deliver"
spelling name.Poll = codes "poll"
spelling name.Beat = codes "beat"
spelling name.Fault = codes "fault"

abbrev pub all_verbs : List VerbName
all_verbs =
    name.Boot ∷ name.Open ∷ name.In ∷ name.Drop ∷ name.Stop ∷ name.Take ∷ name.Put ∷ name.Finish ∷ name.Work
    ∷ name.Cast ∷ name.Trim ∷ name.Ask ∷ name.Read ∷ name.Deliver ∷ name.Poll ∷ name.Beat ∷ name.Fault ∷ []

-- what stands at a place behind a verb: the number of a node or of a connection, a moment or a span, how many rows a trim takes, how many
-- broadcasts a worker commits, any word, or all that is left of the line
pub data Kind : Type 0 where
  Node : Kind
  Connection : Kind
  Moment : Kind
  Batch : Kind
  Puts : Kind
  Word : Kind
  Rest : Kind

-- what stands behind each verb
abbrev pub kinds_behind : VerbName → List Kind
kinds_behind name.Boot = Node ∷ []
kinds_behind name.Open = Node ∷ Connection ∷ Word ∷ []
kinds_behind name.In = Connection ∷ Rest ∷ []
kinds_behind name.Drop = Connection ∷ []
kinds_behind name.Stop = Node ∷ []
kinds_behind name.Take = Connection ∷ []
kinds_behind name.Put = Connection ∷ Moment ∷ []
kinds_behind name.Finish = Connection ∷ []
kinds_behind name.Work = Connection ∷ Moment ∷ Puts ∷ []
kinds_behind name.Cast = Moment ∷ Word ∷ Rest ∷ []
kinds_behind name.Trim = Moment ∷ Moment ∷ Batch ∷ []
kinds_behind name.Ask = Node ∷ []
kinds_behind name.Read = Node ∷ []
kinds_behind name.Deliver = Node ∷ []
kinds_behind name.Poll = Node ∷ []
kinds_behind name.Beat = Node ∷ Moment ∷ []
kinds_behind name.Fault = []

-- ---- the words of a line

-- the word isn't empty and has no blank. The rest of a line may be anything
abbrev pub Fills : Kind → List ℕ → Type 0
Fills Rest word = Unit {0}
Fills _ word = IsWord word

-- a number is spelled by its decimal digits, without a leading zero, and lies in its range
abbrev pub IsInRange : Kind → List ℕ → Type 0
IsInRange Node word = (node : NodeNo) × IsNode node × (word ≡ decimal node.0)
IsInRange Connection word = (conn : ConnNo) × IsConn conn × (word ≡ decimal conn.0)
IsInRange Moment word = (at : Millis) × IsMoment at × (word ≡ decimal at.0)
IsInRange Batch word = (count : ℕ) × IsFrom 1 most_batch count × (word ≡ decimal count)
IsInRange Puts word = (count : ℕ) × IsFrom 0 most_puts count × (word ≡ decimal count)
IsInRange Word word = Unit {0}
IsInRange Rest word = Unit {0}

-- there are as many words as kinds, and P holds of each kind and its word
abbrev pub Each : (Kind → List ℕ → Type 0) → List Kind → List (List ℕ) → Type 0
Each P [] [] = Unit {0}
Each P [] (word ∷ words) = ⊥
Each P (kind ∷ kinds) [] = ⊥
Each P (kind ∷ kinds) (word ∷ words) = P kind word × Each P kinds words

-- the word is what stands before the first blank, or all where there is none
pub record BeginsWith (line word : List ℕ) : Type 0 where
  pub one : list_any (λ b. b == 32) word ≡ false
  pub rest : (line ≡ word) ⊎ ((text : List ℕ) × (line ≡ word ++ 32 ∷ text))

-- behind the verb stand these words, with one blank before each: as many as the verb has, and none is empty
pub record HasWords (verb : VerbName) (words : List (List ℕ)) (line : List ℕ) : Type 0 where
  pub fill : Each Fills (kinds_behind verb) words
  pub parts : line ≡ spaced (spelling verb ∷ words)

-- and each number among them is spelled as one, and lies in its range
pub record HasNumbers (verb : VerbName) (words : List (List ℕ)) (line : List ℕ) : Type 0 where
  pub has : HasWords verb words line
  pub in_range : Each IsInRange (kinds_behind verb) words
