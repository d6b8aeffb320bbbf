-- A command comes to an outcome for each script.
use Rattle.std.proofs.Common.{◌≡◌, ◌≤◌, ◌⊎◌, inl, inr, ⊎_elim, ℕ, List, Option, Some, None, Bool, true, false, length, refl, sym, ◌∙◌, arith, IsUtf8}
use Rattle.std.specs.Str.{is_utf8}
use Rattle.std.proofs.lemmas.Bool.{cases_Bool, cases_lt, false≢true}
use Rattle.std.proofs.lemmas.Str.{IsUtf8-from_is_utf8, is_utf8-from_IsUtf8}
use Rattle.hera_meaning.specs.Trees.{Program_tree}
use Rattle.hera_syntax.specs.declared.token.Token.{Token}
use Rattle.hera_syntax.specs.declared.tree.Tree.{Tree}
use Rattle.hera_syntax.specs.Lex.{Lex, LexFails}
use Rattle.hera_syntax.specs.Tokens.{deep_at, script_limit}
use Rattle.hera_syntax.specs.Trees.{IsFaultAt, IsTextOf}
use Rattle.hera_host.specs.Tables.{Host}
use Rattle.hera_rules.specs.declared.fault.TypeFault.{TypeFault}
use Rattle.hera_rules.specs.declared.fault.TypeFault.TheVariants as faults
use Rattle.hera_rules.specs.Phrases.{Script}
use Rattle.hera_rules.specs.Programs.{ElabScript, FirstFault}
use Rattle.hera_rules.specs.ReadActs.{script_of}
use Rattle.hera_script.specs.declared.cause.Cause.{Cause}
use Rattle.hera_script.specs.Refusing.{HasTokens, IsRefused, too_long, bad_utf8, bad_token, too_deep, syntax, types, unknown, repeated, mismatch, impure, no_return, too_many}
use Rattle.hera_outcome.specs.Outcomes.{Outcome}
use Rattle.hera_outcome.specs.Passages.{Start}
use Rattle.hera_words.specs.declared.command.Command.{Command}
use Rattle.hera_words.specs.declared.command.Command.TheVariants.{Check, List as list_command, Eval, Pack, Exec, Drill, Init, Run, Dump, Checkpoint, Widen, Import, Export, Guard, Weave}
use Rattle.hera_words.specs.Words.{form_of}
use Rattle.hera_top.specs.Commands.{Performs, checks, lists, evaluates, ReadsScript, ComesToFor, refuses, performs}

abbrev SomeTokens : Type 0
SomeTokens = (bytes : List ℕ) → IsUtf8 bytes → ((tokens : List Token) × Lex bytes tokens) ⊎ ((place : ℕ) × LexFails bytes place)

abbrev FewTokens : Type 0
FewTokens = (bytes : List ℕ) (tokens : List Token) → Lex bytes tokens → length tokens ≤ length bytes

abbrev SomeTree : Type 0
SomeTree = (tokens : List Token) → length tokens ≤ script_limit → ((tree : Tree) × IsTextOf tree tokens) ⊎ ((place : ℕ) × IsFaultAt tokens place)

abbrev FaultsHavePlaces : Type 0
FaultsHavePlaces = (hosts : List Host) (script : Script) → ¬ FirstFault hosts script faults.Memory

abbrev SomeTyping : Type 0
SomeTyping = (hosts : List Host) (script : Script) → ((p : Program_tree) × ElabScript hosts script p) ⊎ ((fault : TypeFault) × FirstFault hosts script fault)

module _ (some_tokens : SomeTokens) (few : FewTokens) (some_tree : SomeTree) (places : FaultsHavePlaces) (some_typing : SomeTyping) (hosts : List Host) (command : Command) (script : List ℕ) (s : Start)
    (some_done : (p : Program_tree) → (outcome : Outcome) × Performs hosts p s command outcome) where
  abbrev Comes : Type 0
  Comes = (outcome : Outcome) × ComesToFor hosts script s command outcome

  is_refused : {cause : Cause} {at : ℕ} → IsRefused hosts script cause at → Comes
  is_refused refusal = (_, refuses refusal)

  by_fault : (tokens : List Token) (tree : Tree) → HasTokens script tokens → IsTextOf tree tokens → (fault : TypeFault) → FirstFault hosts (script_of tree) fault → Comes
  by_fault tokens tree has text (faults.Unknown at) first = is_refused (types has text first unknown)
  by_fault tokens tree has text (faults.Repeated at) first = is_refused (types has text first repeated)
  by_fault tokens tree has text (faults.Mismatch at) first = is_refused (types has text first mismatch)
  by_fault tokens tree has text (faults.Impure at) first = is_refused (types has text first impure)
  by_fault tokens tree has text (faults.NoReturn at) first = is_refused (types has text first no_return)
  by_fault tokens tree has text (faults.TooMany at) first = is_refused (types has text first too_many)
  by_fault tokens tree has text faults.Memory first = absurd (places hosts (script_of tree) first)

  by_types : (tokens : List Token) (tree : Tree) → HasTokens script tokens → IsTextOf tree tokens
      → ((p : Program_tree) × ElabScript hosts (script_of tree) p) ⊎ ((fault : TypeFault) × FirstFault hosts (script_of tree) fault) → Comes
  by_types tokens tree has text (inl (p, typed)) =
      let (outcome, done) = some_done p in
      (outcome, performs has.short (record { tokens = tokens; tree = tree; lexed = has.lexed; shallow = has.shallow; text = text; typed = typed }) done)
  by_types tokens tree has text (inr (fault, first)) = by_fault tokens tree has text fault first

  by_tree : (tokens : List Token) → HasTokens script tokens → ((tree : Tree) × IsTextOf tree tokens) ⊎ ((place : ℕ) × IsFaultAt tokens place) → Comes
  by_tree tokens has (inl (tree, text)) = by_types tokens tree has text (some_typing hosts (script_of tree))
  by_tree tokens has (inr (place, fault)) = is_refused (syntax has fault)

  by_depth : length script ≤ script_limit → (tokens : List Token) → Lex script tokens → (o : Option ℕ) → deep_at 0 tokens ≡ o → Comes
  by_depth short tokens lexed None e = by_tree tokens (record { short = short; lexed = lexed; shallow = e }) (some_tree tokens (let less = few script tokens lexed in omega (arith, less, short)))
  by_depth short tokens lexed (Some at) e = is_refused (too_deep short lexed e)

  by_tokens : length script ≤ script_limit → ((tokens : List Token) × Lex script tokens) ⊎ ((place : ℕ) × LexFails script place) → Comes
  by_tokens short (inl (tokens, lexed)) = by_depth short tokens lexed (deep_at 0 tokens) refl
  by_tokens short (inr (place, fails)) = is_refused (bad_token short fails)

  by_utf8 : length script ≤ script_limit → (is_utf8 script ≡ true) ⊎ (is_utf8 script ≡ false) → Comes
  by_utf8 short (inl is) = by_tokens short (some_tokens script (IsUtf8-from_is_utf8 script is))
  by_utf8 short (inr is_not) = is_refused (bad_utf8 short (λ u. false≢true (sym is_not ∙ is_utf8-from_IsUtf8 script u)))

  comes : Comes
  comes = ⊎_elim (λ long. is_refused (too_long long)) (λ short. by_utf8 short (cases_Bool (is_utf8 script))) (cases_lt script_limit (length script))

no_folder : (b : Bool) → b ≡ true → b ≡ false → ⊥
no_folder b some none = (let bad : true ≡ false = sym some ∙ none in cc (bad))

some_done : (hosts : List Host) (s : Start) (command : Command) → ReadsScript command → (form_of command).folder ≡ false → (p : Program_tree) → (outcome : Outcome) × Performs hosts p s command outcome
some_done hosts s Check reads none p = (_, checks)
some_done hosts s list_command reads none p = (_, lists)
some_done hosts s (Eval turns) reads none p = (_, evaluates)
some_done hosts s Pack reads none p = absurd reads
some_done hosts s (Exec turns) reads none p = absurd reads
some_done hosts s (Drill rows) reads none p = absurd reads
some_done hosts s Init reads none p = absurd (no_folder true refl none)
some_done hosts s Widen reads none p = absurd (no_folder true refl none)
some_done hosts s (Run turns) reads none p = absurd (no_folder true refl none)
some_done hosts s Dump reads none p = absurd reads
some_done hosts s Checkpoint reads none p = absurd reads
some_done hosts s Import reads none p = absurd reads
some_done hosts s Export reads none p = absurd reads
some_done hosts s (Guard turns) reads none p = absurd reads
some_done hosts s (Weave turns order files) reads none p = absurd reads

pub some_outcome : SomeTokens → FewTokens → SomeTree → FaultsHavePlaces → SomeTyping → (hosts : List Host) (command : Command) (script : List ℕ) (s : Start) → ReadsScript command → (form_of command).folder ≡ false
    → (outcome : Outcome) × ComesToFor hosts script s command outcome
some_outcome some_tokens few some_tree places some_typing hosts command script s reads none = comes some_tokens few some_tree places some_typing hosts command script s (some_done hosts s command reads none)
