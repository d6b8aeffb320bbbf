-- What each phrase breaks, rule by rule.
use Rattle.std.specs.Prelude.{◌≡◌, ℕ, ◌+◌, ◌<◌, ◌≤◌, ◌⊎◌, Bool, true, false, ◌||◌, List, [], ◌∷◌, ◌++◌, map, length, Some, None, is_some}
use Rattle.std.specs.List.{list_all}
use Rattle.hera_sets.specs.Rows.{holds}
use Rattle.hera_meaning.specs.declared.schemas.TheConstants.{ATTRS_LIMIT}
use Rattle.hera_meaning.specs.declared.schemas.Attr.{Attr}
use Rattle.hera_meaning.specs.declared.trees.Shape.{Shape}
use Rattle.hera_meaning.specs.declared.trees.Shape.TheVariants.{Rel as rel}
use Rattle.hera_meaning.specs.Schemas.{place_named}
use Rattle.hera_meaning.specs.Relations.{lacking}
use Rattle.hera_host.specs.Tables.{host_named}
use Rattle.hera_rules.specs.declared.words.Word.{Word}
use Rattle.hera_rules.specs.declared.words.Renamed.{Renamed}
use Rattle.hera_rules.specs.declared.words.Aggregate.{Aggregate}
use Rattle.hera_rules.specs.declared.env.ProcSig.{ProcSig}
use Rattle.hera_rules.specs.declared.fault.TypeFault.{TypeFault}
use Rattle.hera_rules.specs.declared.fault.TypeFault.TheVariants as faults
use Rattle.hera_rules.specs.Environments.{Env, proc_named, is_global}
use Rattle.hera_rules.specs.Same.{same_shapes}
use Rattle.hera_rules.specs.Rules.{Typing, is_rel, is_scalar, types_of, params_of, word_names, old_words, old_names, kept_names, measured_words, agg_words, sums_int, kinds_agree}

-- ---- words in text order

-- the words stand one behind the other, from an offset on
abbrev pub InOrder : ℕ → List Word → Type 0
InOrder n [] = Unit {0}
InOrder n (w ∷ ws) = (n ≤ w.at) × InOrder (w.at + 1) ws

-- so do the pairs, each new name before its old one
abbrev pub PairsInOrder : ℕ → List Renamed → Type 0
PairsInOrder n [] = Unit {0}
PairsInOrder n (r ∷ rs) = (n ≤ r.new.at) × (r.new.at < r.old.at) × PairsInOrder (r.old.at + 1) rs

-- ---- faults of words

-- a word that is no attribute
pub data IsStranger (s : List Attr) (words : List Word) : TypeFault → Type 0 where
  stranger : (front back : List Word) (w : Word) → words ≡ front ++ w ∷ back → place_named w.name s ≡ None → IsStranger s words (faults.Unknown w.at)

-- a word whose name is one of these, or stands before
pub data IsRepeat (seen : List (List ℕ)) (words : List Word) : TypeFault → Type 0 where
  again : (front back : List Word) (w : Word) → words ≡ front ++ w ∷ back → holds (seen ++ word_names front) w.name ≡ true → IsRepeat seen words (faults.Repeated w.at)

abbrev pub new_names : List Renamed → List (List ℕ)
new_names rs = map (λ r. r.new.name) rs

-- a new name that is one of these results, or stands before; an old name that is one of these, or stands before
pub data IsRenameRepeat (results olds : List (List ℕ)) (pairs : List Renamed) : TypeFault → Type 0 where
  new_again : (front back : List Renamed) (r : Renamed) → pairs ≡ front ++ r ∷ back → holds (results ++ new_names front) r.new.name ≡ true → IsRenameRepeat results olds pairs (faults.Repeated r.new.at)
  old_again : (front back : List Renamed) (r : Renamed) → pairs ≡ front ++ r ∷ back → holds (olds ++ old_names front) r.old.name ≡ true → IsRenameRepeat results olds pairs (faults.Repeated r.old.at)

-- ---- phrases

-- the results of a `rename` that are there from the start: the names that are kept, where the operand is a rel
abbrev pub kept_of : Shape → List Renamed → List (List ℕ)
kept_of (rel s) pairs = kept_names s (old_names pairs)
kept_of _ pairs = []

pub data BreaksProject (at : ℕ) (words : List Word) (of : Shape) : TypeFault → Type 0 where
  unknown : {f : TypeFault} (s : List Attr) → of ≡ rel s → IsStranger s words f → BreaksProject at words of f
  repeated : {f : TypeFault} → IsRepeat [] words f → BreaksProject at words of f
  no_rel : is_rel of ≡ false → BreaksProject at words of (faults.Mismatch at)

pub data BreaksRename (at : ℕ) (pairs : List Renamed) (of : Shape) : TypeFault → Type 0 where
  unknown : {f : TypeFault} (s : List Attr) → of ≡ rel s → IsStranger s (old_words pairs) f → BreaksRename at pairs of f
  repeated : {f : TypeFault} → IsRenameRepeat (kept_of of pairs) [] pairs f → BreaksRename at pairs of f
  no_rel : is_rel of ≡ false → BreaksRename at pairs of (faults.Mismatch at)

-- the words of a `group` that have to be attributes
abbrev pub group_uses : List Word → List Aggregate → List Word
group_uses by aggs = by ++ measured_words aggs

-- the words of its results
abbrev pub group_names : List Word → List Aggregate → List Word
group_names by aggs = by ++ agg_words aggs

pub data BreaksGroup (at : ℕ) (by : List Word) (aggs : List Aggregate) (of : Shape) : TypeFault → Type 0 where
  unknown : {f : TypeFault} (s : List Attr) → of ≡ rel s → IsStranger s (group_uses by aggs) f → BreaksGroup at by aggs of f
  repeated : {f : TypeFault} → IsRepeat [] (group_names by aggs) f → BreaksGroup at by aggs of f
  too_many : ATTRS_LIMIT < length by + length aggs → BreaksGroup at by aggs of (faults.TooMany at)
  no_sum : (s : List Attr) → of ≡ rel s → list_all (λ a. sums_int s a.of) aggs ≡ false → BreaksGroup at by aggs of (faults.Mismatch at)
  no_rel : is_rel of ≡ false → BreaksGroup at by aggs of (faults.Mismatch at)

pub data BreaksJoin (at : ℕ) (left right : Shape) : TypeFault → Type 0 where
  too_many : (s t : List Attr) → left ≡ rel s → right ≡ rel t → ATTRS_LIMIT < length s + length (lacking s t) → BreaksJoin at left right (faults.TooMany at)
  kinds_differ : (s t : List Attr) → left ≡ rel s → right ≡ rel t → kinds_agree s t ≡ false → BreaksJoin at left right (faults.Mismatch at)
  no_rel : (is_rel left ≡ false) ⊎ (is_rel right ≡ false) → BreaksJoin at left right (faults.Mismatch at)

pub data BreaksTuple (at : ℕ) (words : List Word) (values : List Typing) : TypeFault → Type 0 where
  repeated : {f : TypeFault} → IsRepeat [] words f → BreaksTuple at words values f
  too_many : ATTRS_LIMIT < length words → BreaksTuple at words values (faults.TooMany at)
  no_scalar : list_all is_scalar (types_of values) ≡ false → BreaksTuple at words values (faults.Mismatch at)

-- a name has a meaning that is no proc
abbrev pub is_other : Env → Word → Bool
is_other g w = is_global g w.name || is_some (host_named w.name g.hosts)

pub data BreaksPerform (g : Env) (in_func : Bool) (w : Word) (values : List Typing) : TypeFault → Type 0 where
  unknown : proc_named w.name g.procs ≡ None → is_other g w ≡ false → BreaksPerform g in_func w values (faults.Unknown w.at)
  impure : (p : ProcSig) → proc_named w.name g.procs ≡ Some p → in_func ≡ true → BreaksPerform g in_func w values (faults.Impure w.at)
  no_proc : proc_named w.name g.procs ≡ None → is_other g w ≡ true → BreaksPerform g in_func w values (faults.Mismatch w.at)
  other_types : (p : ProcSig) → proc_named w.name g.procs ≡ Some p → same_shapes (params_of p.params) (types_of values) ≡ false → BreaksPerform g in_func w values (faults.Mismatch w.at)
