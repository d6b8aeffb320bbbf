-- Instructions that look at one operand at most, and at no walk and no layer.
use Rattle.std.specs.Prelude.{◌≡◌, ℕ, ◌+◌, Bool, true, false, not, ◌&&◌, List, [], ◌∷◌, length, Option, Some, None, is_some, nat_lt, nat_eq}
use Rattle.hera_meaning.specs.declared.schemas.RelDecl.{RelDecl}
use Rattle.hera_meaning.specs.Deltas.{schema_of}
use Rattle.hera_meaning.specs.Hosts.{Hosts, host_at, host_takes, host_gives}
use Rattle.hera_meaning.specs.Forms.{Form, of_scalar, of_table, of_delta, kinds_of, form_of, bool_form}
use Rattle.hera_meaning.specs.Sound.{const_form, is_const}
use Rattle.hera_code.specs.declared.instrs.Instr.{Instr}
use Rattle.hera_code.specs.declared.instrs.Instr.TheVariants.{Push, Load, Store, Rel, Host, Jump, Unless, Back, Ret, RetVal, Print, Apply, Commit, Rollback, Assert, Halt}
use Rattle.hera_code.specs.declared.instrs.Code.{Code}
use Rattle.hera_typed.specs.Points.{Seen, Point, with, when, first, agrees}
use Rattle.hera_typed.specs.Effects.{Body_note, Goal, with_operands, pushed_result, slot, result, is_set_at}
use Rattle.std.specs.Option.{option_map}
use Rattle.hera_effects.specs.declared.plain.Plain.{Plain}
use Rattle.hera_stacks.specs.Flat.{flat_form}
use Rattle.hera_effects.specs.Ways.{listed, all_to}

-- takes an operand of a form, or none, gives a value of a form, or none, and goes on to these addresses
pub record Plain_effect : Type 0 where
  pub takes : Option Form
  pub gives : Option Form
  pub ways : List ℕ

abbrev pub takes_on : Form → ℕ → Plain_effect
takes_on f a = record { takes = Some f; gives = None; ways = a ∷ [] }

abbrev pub gives_on : Form → ℕ → Plain_effect
gives_on f a = record { takes = None; gives = Some f; ways = a ∷ [] }

abbrev pub goes_on : List ℕ → Plain_effect
goes_on ways = record { takes = None; gives = None; ways = ways }

abbrev pub taken : Option Form → List Seen → Option (List Seen)
taken None ss = Some ss
taken (Some f) ss = first ss (λ s rest. when (agrees s f) (Some rest))

abbrev pub moved : Point → Plain_effect → Option (List Goal)
moved p e = with (taken e.takes p.operands) (λ ss. Some (all_to e.ways (Some (with_operands (pushed_result e.gives ss) p))))

module _ (code : Code) (rels : List RelDecl) (hosts : Hosts) (notes : List Body_note) where
  abbrev pub plain : ℕ → ℕ → Instr → Option Plain_effect
  plain k a (Push c) = when (is_const c) (Some (gives_on (const_form c) (a + 1)))
  plain k a (Load i) = with (slot notes k i) (λ n. when (is_set_at code k i a n) (Some (gives_on n.form (a + 1))))
  plain k a (Store i) = with (slot notes k i) (λ n. Some (takes_on n.form (a + 1)))
  plain k a (Rel r) = when (nat_lt r.0 (length rels)) (Some (gives_on (of_table (kinds_of (schema_of rels r.0))) (a + 1)))
  plain k a (Host h) = with (host_at hosts h) (λ spec. Some (record { takes = Some (of_scalar (host_takes spec)); gives = Some (of_scalar (host_gives spec)); ways = (a + 1) ∷ [] }))
  plain k a (Jump b) = Some (goes_on (b ∷ []))
  plain k a (Unless b) = Some (record { takes = Some bool_form; gives = None; ways = (a + 1) ∷ b ∷ [] })
  plain k a (Back b) = Some (goes_on (b ∷ []))
  plain k a Ret = when (nat_lt 0 k && not (is_some (result notes k))) (Some (goes_on []))
  plain k a RetVal = with (result notes k) (λ f. Some (record { takes = Some f; gives = None; ways = [] }))
  plain k a (Print shape) = Some (takes_on (form_of shape) (a + 1))
  plain k a (Apply at) = Some (takes_on of_delta (a + 1))
  plain k a Commit = Some (goes_on ((a + 1) ∷ []))
  plain k a Rollback = Some (goes_on ((a + 1) ∷ []))
  plain k a (Assert at) = Some (takes_on bool_form (a + 1))
  plain k a Halt = when (nat_eq k 0) (Some (goes_on []))
  plain k a _ = None

-- as numbers, it is this
pub record IsPlain (r : Plain) (e : Plain_effect) : Type 0 where
  pub takes : r.takes ≡ option_map flat_form e.takes
  pub gives : r.gives ≡ option_map flat_form e.gives
  pub ways : listed r.first r.second ≡ e.ways

-- of which what they do is all of this
abbrev pub is_plain : Instr → Bool
is_plain (Push c) = true
is_plain (Load i) = true
is_plain (Store i) = true
is_plain (Rel r) = true
is_plain (Host h) = true
is_plain (Jump b) = true
is_plain (Unless b) = true
is_plain (Back b) = true
is_plain Ret = true
is_plain RetVal = true
is_plain (Print shape) = true
is_plain (Apply at) = true
is_plain Commit = true
is_plain Rollback = true
is_plain (Assert at) = true
is_plain Halt = true
is_plain _ = false
