-- Which programs are sound: what checking of types leaves to be relied on.
use Rattle.std.specs.Prelude.{◌≡◌, ◌<◌, ◌≤◌, ◌^◌, ◌&&◌, ◌||◌, ℕ, zero, suc, Bool, true, false, cond, not, List, [], ◌∷◌, ◌++◌, Option, Some, None, is_some, length, take, slice_get, nat_eq, nat_lt, All}
use Rattle.std.specs.List.{list_any}
use Rattle.hera_meaning.specs.declared.scalars.Kind.{Kind}
use Rattle.hera_meaning.specs.declared.schemas.RelDecl.{RelDecl}
use Rattle.hera_meaning.specs.declared.hosts.HostSpec.{HostSpec}
use Rattle.hera_meaning.specs.declared.hosts.HostSpec.TheVariants.{Band, Bucket, Prefix, Clamp}
use Rattle.hera_meaning.specs.declared.trees.Const.{Const}
use Rattle.hera_meaning.specs.declared.trees.Const.TheVariants.{Scalar, EmptyDelta, FailDelta}
use Rattle.hera_meaning.specs.Texts.{is_text}
use Rattle.hera_meaning.specs.Scalars.{fits_int, kind_of, is_scalar}
use Rattle.hera_meaning.specs.Catalogues.{IsCatalogue}
use Rattle.hera_meaning.specs.Deltas.{schema_of}
use Rattle.hera_meaning.specs.Hosts.{Hosts, host_at, host_takes, host_gives}
use Rattle.hera_meaning.specs.Trees.{Expr, constant, local, relation, prim, chain, and_all, or_any, when, select, map_each, call, host, Exprs, no_more, then_expr, Links, no_link, link, Hypos, no_hypo, hypo, Command, set_slot, if_arms, while, foreach, print, apply, commit, rollback, assert, return, return_value, call_proc, Block, no_stmt, then_stmt, Arms, no_arm, arm, Body_tree, Program_tree}
use Rattle.hera_meaning.specs.Addresses.{size_of}
use Rattle.hera_meaning.specs.Forms.{Form, of_scalar, of_tuple, of_table, of_delta, bool_form, kinds_of, form_of, OpIsOf}

-- ---- slots

-- the slot is one of these
abbrev pub has_slot : List ℕ → ℕ → Bool
has_slot slots i = list_any (nat_eq i) slots

-- no slot stands twice
abbrev pub AreApart : List ℕ → Type 0
AreApart [] = Unit {0}
AreApart (i ∷ slots) = (has_slot slots i ≡ false) × AreApart slots

-- the slots of parameters
abbrev pub first_slots : ℕ → List ℕ
first_slots zero = []
first_slots (suc n) = n ∷ first_slots n

-- the slots of the walks in a phrase
abbrev mutual
  pub walks_in : Expr → List ℕ
  walks_in (constant c) = []
  walks_in (local i) = []
  walks_in (relation r) = []
  walks_in (prim op args at) = walks_in_all args
  walks_in (chain first links) = walks_in first ++ walks_in_links links
  walks_in (and_all args) = walks_in_all args
  walks_in (or_any args) = walks_in_all args
  walks_in (when body hypos) = walks_in body ++ walks_in_hypos hypos
  walks_in (select i of body) = i ∷ (walks_in of ++ walks_in body)
  walks_in (map_each i of body) = i ∷ (walks_in of ++ walks_in body)
  walks_in (call k args) = walks_in_all args
  walks_in (host h args) = walks_in_all args

  pub walks_in_all : Exprs → List ℕ
  walks_in_all no_more = []
  walks_in_all (then_expr e es) = walks_in e ++ walks_in_all es

  pub walks_in_links : Links → List ℕ
  walks_in_links no_link = []
  walks_in_links (link op arg at rest) = walks_in arg ++ walks_in_links rest

  pub walks_in_hypos : Hypos → List ℕ
  walks_in_hypos no_hypo = []
  walks_in_hypos (hypo d at rest) = walks_in d ++ walks_in_hypos rest

abbrev mutual
  pub walks_of : Command → List ℕ
  walks_of (set_slot i e) = walks_in e
  walks_of (if_arms arms other) = walks_of_arms arms ++ walks_of_block other
  walks_of (while c block) = walks_in c ++ walks_of_block block
  walks_of (foreach i of block) = i ∷ (walks_in of ++ walks_of_block block)
  walks_of (print e shape) = walks_in e
  walks_of (apply d at) = walks_in d
  walks_of (commit label) = []
  walks_of rollback = []
  walks_of (assert c at) = walks_in c
  walks_of return = []
  walks_of (return_value e) = walks_in e
  walks_of (call_proc k args) = walks_in_all args

  pub walks_of_block : Block → List ℕ
  walks_of_block no_stmt = []
  walks_of_block (then_stmt c rest) = walks_of c ++ walks_of_block rest

  pub walks_of_arms : Arms → List ℕ
  walks_of_arms no_arm = []
  walks_of_arms (arm c block rest) = walks_in c ++ walks_of_block block ++ walks_of_arms rest

-- the slots that a phrase sets
abbrev mutual
  pub sets_of : Command → List ℕ
  sets_of (set_slot i e) = i ∷ []
  sets_of (if_arms arms other) = sets_of_arms arms ++ sets_of_block other
  sets_of (while c block) = sets_of_block block
  sets_of (foreach i of block) = sets_of_block block
  sets_of _ = []

  pub sets_of_block : Block → List ℕ
  sets_of_block no_stmt = []
  sets_of_block (then_stmt c rest) = sets_of c ++ sets_of_block rest

  pub sets_of_arms : Arms → List ℕ
  sets_of_arms no_arm = []
  sets_of_arms (arm c block rest) = sets_of_block block ++ sets_of_arms rest

-- the readable slots behind a statement: a slot is readable from behind its first Set, which is none of
-- those seen, to the end of that block
abbrev pub readable_after : (seen readable : List ℕ) → Command → List ℕ
readable_after seen readable (set_slot i e) = cond (has_slot seen i) readable (i ∷ readable)
readable_after seen readable _ = readable

-- ---- the forms of a body's slots, and of what it returns

pub record Body_forms : Type 0 where
  pub slots : List Form
  pub result : Option Form

-- what the phrases of one body are checked against: the program's relations, hosts, bodies and their
-- forms, whether the body is a func, its own forms, and the slots of its walks
pub record Scope : Type 0 where
  pub rels : List RelDecl
  pub hosts : Hosts
  pub bodies : List Body_tree
  pub forms : List Body_forms
  pub func : Bool
  pub own : Body_forms
  pub walks : List ℕ

-- ---- expressions

abbrev pub const_form : Const → Form
const_form (Scalar s) = of_scalar (kind_of s)
const_form EmptyDelta = of_delta
const_form FailDelta = of_delta

-- a scalar in range
abbrev pub is_const : Const → Bool
is_const (Scalar s) = is_scalar s
is_const _ = true

-- a label is a text
abbrev pub is_label : Option (List ℕ) → Bool
is_label None = true
is_label (Some label) = is_text label

-- body k, which is not main, is a func or not as asked, takes parameters of these forms and has this result
pub record IsCallee (sc : Scope) (k : ℕ) (func : Bool) (params : List Form) (result : Option Form) : Type 0 where
  pub body : Body_tree
  pub forms : Body_forms
  pub behind_main : 1 ≤ k
  pub body_is : slice_get sc.bodies k ≡ Some body
  pub forms_are : slice_get sc.forms k ≡ Some forms
  pub func_is : body.func ≡ func
  pub params_are : params ≡ take body.params forms.slots
  pub result_is : forms.result ≡ result

-- there is an operand
abbrev pub IsNotNone : Exprs → Type 0
IsNotNone no_more = ⊥
IsNotNone (then_expr e es) = Unit {0}

module _ (sc : Scope) where
  -- the slot has this form
  abbrev pub IsSlot : ℕ → Form → Type 0
  IsSlot i f = slice_get sc.own.slots i ≡ Some f

  abbrev mutual
    -- the expression is of this form, where these slots are readable
    pub IsOf : (readable : List ℕ) → Expr → Form → Type 0
    IsOf rs (constant c) f = (is_const c ≡ true) × (const_form c ≡ f)
    IsOf rs (local i) f = (has_slot rs i ≡ true) × IsSlot i f
    IsOf rs (relation r) f = (r < length sc.rels) × (of_table (kinds_of (schema_of sc.rels r)) ≡ f)
    IsOf rs (prim op args at) f = (fs : List Form) × AreOf rs args fs × OpIsOf sc.rels op fs f
    IsOf rs (chain first links) f = (g : Form) × IsOf rs first g × LinksAreOf rs links g f
    IsOf rs (and_all args) f = IsNotNone args × AreBools rs args × (f ≡ bool_form)
    IsOf rs (or_any args) f = IsNotNone args × AreBools rs args × (f ≡ bool_form)
    IsOf rs (when body hypos) f = AreDeltas rs hypos × IsOf rs body f
    IsOf rs (select i of body) f = (ks : List Kind) × IsOf rs of (of_table ks) × IsSlot i (of_tuple ks) × IsOf (i ∷ rs) body bool_form × (f ≡ of_table ks)
    IsOf rs (map_each i of body) f =
        (ks : List Kind) × (ls : List Kind) × IsOf rs of (of_table ks) × IsSlot i (of_tuple ks) × IsOf (i ∷ rs) body (of_tuple ls) × (f ≡ of_table ls)
    IsOf rs (call k args) f = (fs : List Form) × AreOf rs args fs × IsCallee sc k true fs (Some f)
    IsOf rs (host h args) f = (spec : HostSpec) × (host_at sc.hosts h ≡ Some spec) × AreOf rs args (of_scalar (host_takes spec) ∷ []) × (f ≡ of_scalar (host_gives spec))

    -- as many expressions as forms, each of its form
    pub AreOf : (readable : List ℕ) → Exprs → List Form → Type 0
    AreOf rs no_more [] = Unit {0}
    AreOf rs no_more (f ∷ fs) = ⊥
    AreOf rs (then_expr e es) [] = ⊥
    AreOf rs (then_expr e es) (f ∷ fs) = IsOf rs e f × AreOf rs es fs

    pub AreBools : (readable : List ℕ) → Exprs → Type 0
    AreBools rs no_more = Unit {0}
    AreBools rs (then_expr e es) = IsOf rs e bool_form × AreBools rs es

    -- a chain goes on from a value of form g to one of form f
    pub LinksAreOf : (readable : List ℕ) → Links → (g f : Form) → Type 0
    LinksAreOf rs no_link g f = g ≡ f
    LinksAreOf rs (link op arg at rest) g f = (h : Form) × (k : Form) × IsOf rs arg h × OpIsOf sc.rels op (g ∷ h ∷ []) k × LinksAreOf rs rest k f

    pub AreDeltas : (readable : List ℕ) → Hypos → Type 0
    AreDeltas rs no_hypo = Unit {0}
    AreDeltas rs (hypo d at rest) = IsOf rs d of_delta × AreDeltas rs rest

  -- ---- statements

  -- the slot of a walk is set in the block of its own Foreach alone
  abbrev pub MaySet : (inside : List ℕ) → ℕ → Type 0
  MaySet inside i = (not (has_slot sc.walks i) || has_slot inside i) ≡ true

  abbrev mutual
    -- the statement is sound where the slots seen were set before it, these are readable, and it stands
    -- inside the Foreachs of these slots
    pub IsSound : (seen readable inside : List ℕ) → Command → Type 0
    IsSound seen rs inside (set_slot i e) = (f : Form) × IsSlot i f × IsOf rs e f × MaySet inside i
    IsSound seen rs inside (if_arms arms other) = ArmsAreSound seen rs inside arms × BlockIsSound (seen ++ sets_of_arms arms) rs inside other
    IsSound seen rs inside (while c block) = IsOf rs c bool_form × BlockIsSound seen rs inside block
    IsSound seen rs inside (foreach i of block) = (ks : List Kind) × IsOf rs of (of_table ks) × IsSlot i (of_tuple ks) × BlockIsSound seen (i ∷ rs) (i ∷ inside) block
    IsSound seen rs inside (print e shape) = IsOf rs e (form_of shape) × (sc.func ≡ false)
    IsSound seen rs inside (apply d at) = IsOf rs d of_delta × (sc.func ≡ false)
    IsSound seen rs inside (commit label) = (is_label label ≡ true) × (sc.func ≡ false)
    IsSound seen rs inside rollback = sc.func ≡ false
    IsSound seen rs inside (assert c at) = IsOf rs c bool_form
    IsSound seen rs inside return = sc.func ≡ false
    IsSound seen rs inside (return_value e) = (f : Form) × IsOf rs e f × (sc.own.result ≡ Some f) × (sc.func ≡ true)
    IsSound seen rs inside (call_proc k args) = (fs : List Form) × AreOf rs args fs × IsCallee sc k false fs None × (sc.func ≡ false)

    pub BlockIsSound : (seen readable inside : List ℕ) → Block → Type 0
    BlockIsSound seen rs inside no_stmt = Unit {0}
    BlockIsSound seen rs inside (then_stmt c rest) = IsSound seen rs inside c × BlockIsSound (seen ++ sets_of c) (readable_after seen rs c) inside rest

    pub ArmsAreSound : (seen readable inside : List ℕ) → Arms → Type 0
    ArmsAreSound seen rs inside no_arm = Unit {0}
    ArmsAreSound seen rs inside (arm c block rest) = IsOf rs c bool_form × BlockIsSound seen rs inside block × ArmsAreSound (seen ++ sets_of_block block) rs inside rest

-- ---- bodies

-- the last statement returns: a `return`, or an `if` whose blocks all return, the else block too
abbrev mutual
  pub returns : Block → Bool
  returns no_stmt = false
  returns (then_stmt c no_stmt) = command_returns c
  returns (then_stmt c (then_stmt d rest)) = returns (then_stmt d rest)

  pub command_returns : Command → Bool
  command_returns (return_value e) = true
  command_returns (if_arms arms other) = arms_return arms && returns other
  command_returns _ = false

  pub arms_return : Arms → Bool
  arms_return no_arm = true
  arms_return (arm c block rest) = returns block && arms_return rest

pub record IsBody (sc : Scope) (b : Body_tree) : Type 0 where
  -- parameters are the first slots, and each slot has one form
  pub params : b.params ≤ b.slots
  pub slots : length sc.own.slots ≡ b.slots
  -- a func has a result, and its last statement returns
  pub result : is_some sc.own.result ≡ b.func
  pub returning : b.func ≡ true → returns b.block ≡ true
  -- the slot of a walk is no parameter and no other walk's slot
  pub walks_new : All (λ i. b.params ≤ i) (walks_of_block b.block)
  pub walks_apart : AreApart (walks_of_block b.block)
  pub block : BlockIsSound sc [] (first_slots b.params) [] b.block

-- ---- programs

-- the numbers of a host are in range, its width is not 0, and its text is one
abbrev pub is_spec : HostSpec → Bool
is_spec (Band lo hi) = fits_int lo && fits_int hi
is_spec (Bucket width) = nat_lt 0 width && nat_lt width (2 ^ 32)
is_spec (Prefix text) = is_text text
is_spec (Clamp lo hi) = fits_int lo && fits_int hi

-- body 0 is no func and has no parameters
pub record IsMain (bodies : List Body_tree) : Type 0 where
  pub body : Body_tree
  pub here : slice_get bodies 0 ≡ Some body
  pub func : body.func ≡ false
  pub params : body.params ≡ 0

abbrev pub scope_of : Program_tree → Hosts → List Body_forms → Body_tree → Body_forms → Scope
scope_of p hosts forms b own =
    record { rels = p.relations; hosts = hosts; bodies = p.bodies; forms = forms; func = b.func; own = own; walks = walks_of_block b.block }

-- the program is sound with these forms of its bodies
pub record Shaped (p : Program_tree) (hosts : Hosts) (forms : List Body_forms) : Type 0 where
  pub relations : IsCatalogue p.relations
  pub specs : All (λ spec. is_spec spec ≡ true) hosts
  pub main : IsMain p.bodies
  pub many : length forms ≡ length p.bodies
  pub bodies : (k : ℕ) (b : Body_tree) (own : Body_forms) → slice_get p.bodies k ≡ Some b → slice_get forms k ≡ Some own → IsBody (scope_of p hosts forms b own) b
  pub size : size_of p < 2 ^ 32

pub record Sound (p : Program_tree) (hosts : Hosts) : Type 0 where
  pub forms : List Body_forms
  pub shaped : Shaped p hosts forms
