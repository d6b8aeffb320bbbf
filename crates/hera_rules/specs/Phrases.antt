-- Phrases: a syntax tree without its brackets, and without the levels that have no operator.
use Rattle.std.specs.Prelude.{ℕ, List, Option}
use Rattle.hera_rules.specs.declared.words.Word.{Word}
use Rattle.hera_rules.specs.declared.words.WalkKind.{WalkKind}
use Rattle.hera_rules.specs.declared.words.Pair.{Pair}
use Rattle.hera_rules.specs.declared.words.Fold.{Fold}
use Rattle.hera_rules.specs.declared.words.Renamed.{Renamed}
use Rattle.hera_rules.specs.declared.words.Aggregate.{Aggregate}
use Rattle.hera_rules.specs.declared.words.Field.{Field}
use Rattle.hera_rules.specs.declared.words.Joint.{Joint}
use Rattle.hera_rules.specs.declared.words.Prefix.{Prefix}
use Rattle.hera_rules.specs.declared.words.Test.{Test}
use Rattle.hera_meaning.specs.declared.scalars.Kind.{Kind}
use Rattle.hera_meaning.specs.declared.scalars.Sign.{Sign}
use Rattle.hera_meaning.specs.declared.trees.Const.{Const}

mutual
  -- an expression; `at` is the offset of its mark
  pub data Phrase : Type 0 where
    literal : Const → Phrase
    named : Word → Phrase
    calling : (w : Word) (args : Phrases) → Phrase
    operation : (first : Phrase) (rest : Uses) → Phrase
    prefixed : (op : Prefix) (at : ℕ) (of : Phrase) → Phrase
    attribute : (of : Phrase) (w : Word) → Phrase
    row : (at : ℕ) (names : List Word) (values : Phrases) → Phrase
    -- an atom, and a delta literal
    atom : (sign : Sign) (w : Word) (args : Phrases) → Phrase
    atoms : (at : ℕ) (all : Phrases) → Phrase
    -- a line of `rows`, and all of them
    line : (w : Word) (at : ℕ) (args : Phrases) → Phrase
    lines : (w : Word) (at : ℕ) (all : Phrases) → Phrase
    walking : (walk : WalkKind) (at : ℕ) (var : Word) (of body : Phrase) → Phrase
    projecting : (at : ℕ) (of : Phrase) (names : List Word) → Phrase
    renaming : (at : ℕ) (of : Phrase) (names : List Renamed) → Phrase
    pairing : (pair : Pair) (at : ℕ) (left right : Phrase) → Phrase
    grouping : (at : ℕ) (of : Phrase) (by : List Word) (aggs : List Aggregate) → Phrase
    -- `count`, `empty`, `isfail`
    testing : (test : Test) (at : ℕ) (of : Phrase) → Phrase
    folding : (fold : Fold) (at : ℕ) (of : Phrase) (w : Word) → Phrase
    -- `bulk`; `ins` and `del`
    bulk : (sign : Sign) (w : Word) (at : ℕ) (of : Phrase) → Phrase
    part : (sign : Sign) (w : Word) (at : ℕ) (of : Phrase) → Phrase

  pub data Phrases : Type 0 where
    no_phrase : Phrases
    phrase : Phrase → Phrases → Phrases

  -- the rest of a chain: operator, its place, the right operand
  pub data Uses : Type 0 where
    no_use : Uses
    uses : (op : Joint) (at : ℕ) (p : Phrase) (rest : Uses) → Uses

-- ---- types as written

pub data Schema_phrase : Type 0 where
  of_relation : Word → Schema_phrase
  written : List Field → Schema_phrase

pub data Type_phrase : Type 0 where
  kind_type : Kind → Type_phrase
  delta_type : Type_phrase
  rel_type : Schema_phrase → Type_phrase
  tuple_type : Schema_phrase → Type_phrase

-- ---- statements

mutual
  pub data Act : Type 0 where
    declaring : (type : Type_phrase) (w : Word) (value : Phrase) → Act
    assigning : (w : Word) (value : Phrase) → Act
    performing : (w : Word) (args : Phrases) → Act
    -- an `if`, without its `else` where there is none or an empty one
    choosing : (arms : Branches) (last : Acts) → Act
    looping : (at : ℕ) (cond : Phrase) (block : Acts) → Act
    visiting : (at : ℕ) (var : Word) (of : Phrase) (block : Acts) → Act
    printing : (at : ℕ) (value : Phrase) → Act
    applying : (at : ℕ) (delta : Phrase) → Act
    asserting : (at : ℕ) (cond : Phrase) → Act
    -- with the bytes of its label, where it has one
    committing : (at : ℕ) (label : Option (List ℕ)) → Act
    rolling_back : (at : ℕ) → Act
    returning : (at : ℕ) → Act
    returning_value : (at : ℕ) (value : Phrase) → Act

  pub data Acts : Type 0 where
    no_act : Acts
    act : Act → Acts → Acts

  -- the arms of an `if`: the place of the `if`, the condition, the block
  pub data Branches : Type 0 where
    no_branch : Branches
    branch : (at : ℕ) (cond : Phrase) (block : Acts) (rest : Branches) → Branches

-- ---- declarations

pub record Relation_phrase : Type 0 where
  pub name : Word
  pub attrs : List Field

pub record Param_phrase : Type 0 where
  pub type : Type_phrase
  pub name : Word

pub record Func_phrase : Type 0 where
  pub type : Type_phrase
  pub name : Word
  pub params : List Param_phrase
  pub block : Acts

pub record Proc_phrase : Type 0 where
  pub name : Word
  pub params : List Param_phrase
  pub block : Acts

-- a whole script; main has no statement where there is no main
pub record Script : Type 0 where
  pub relations : List Relation_phrase
  pub funcs : List Func_phrase
  pub procs : List Proc_phrase
  pub main : Acts
