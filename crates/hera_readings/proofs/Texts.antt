-- A list of tokens is a text, or has a place of a fault.
use Rattle.std.proofs.Common.{◌≡◌, ◌≤◌, ◌-◌, ◌⊎◌, inl, inr, ℕ, List, [], ◌∷◌, length, refl, sym, subst, arith}
use Rattle.hera_syntax.specs.declared.token.Token.{Token}
use Rattle.hera_syntax.specs.declared.tree.Tree.{Tree}
use Rattle.hera_syntax.specs.Grammar.{phrase}
use Rattle.hera_syntax.specs.Grammar as phrases
use Rattle.hera_syntax.specs.Outline.{Entry}
use Rattle.hera_syntax.specs.Programs.{outline}
use Rattle.hera_syntax.specs.Tokens.{script_limit}
use Rattle.hera_syntax.specs.Trees.{Printed, Agree, at_end, one_more, IsTextOf, IsFaultAt}
use Rattle.hera_parser_exprs.specs.Reading.{Runs, End, accept, stuck}
use Rattle.hera_parser.specs.Reading.{ReadsProgram, StopsBefore}
use Rattle.hera_parser.proofs.Exact.{accepted_obeys, accepted_agrees, stuck_length}
use Rattle.hera_readings.proofs.Ends.{ended}
use Rattle.hera_readings.proofs.Trees.{tree_of}

-- as many tokens as are printed
as_many : {ps : List Printed} {ts : List Token} → Agree ps ts → length ps ≡ length ts
as_many at_end = refl
as_many (one_more {ps = ps} {ts = ts} a more) = let rest = as_many more in omega (arith, rest)

abbrev ReadsTexts : Type 0
ReadsTexts = (tree : Tree) (tokens : List Token) → ReadsProgram tokens (outline tree) → IsTextOf tree tokens

abbrev StopsAtFaults : Type 0
StopsAtFaults = (tokens : List Token) (place : ℕ) → StopsBefore tokens place → IsFaultAt tokens place

abbrev TextOrFault : List Token → Type 0
TextOrFault tokens = ((tree : Tree) × IsTextOf tree tokens) ⊎ ((place : ℕ) × IsFaultAt tokens place)

read_to : ReadsTexts → StopsAtFaults → (tokens : List Token) → length tokens ≤ script_limit → (marks : List Entry) (end : End) → Runs (phrase phrases.program ∷ []) tokens marks end → TextOrFault tokens
read_to reads stops tokens few marks accept r =
    let many = as_many (accepted_agrees r) in
    let tree = tree_of marks (omega (arith, many, few)) (accepted_obeys r) in
    inl (tree.0, reads tree.0 tokens (subst (λ ms. ReadsProgram tokens ms) (sym tree.1) r))
read_to reads stops tokens few marks (stuck rest) r =
    let short = stuck_length r in
    inr (length tokens - length rest, stops tokens (length tokens - length rest) (record { marks = marks; rest = rest; here = omega (arith, short); stuck_here = r }))

pub text_or_fault : ReadsTexts → StopsAtFaults → (tokens : List Token) → length tokens ≤ script_limit → TextOrFault tokens
text_or_fault reads stops tokens few = let e = ended (phrase phrases.program ∷ []) tokens in read_to reads stops tokens few e.marks e.end e.runs
