-- The text of code.
use Rattle.std.specs.Prelude.{◌≡◌, ◌<◌, ◌≤◌, ℕ, suc, List, [], ◌∷◌, ◌++◌, Some, length, slice_get, slice_range, codes}
use Rattle.hera_meaning.specs.declared.trees.Const.{Const}
use Rattle.hera_meaning.specs.declared.trees.Const.TheVariants.{Scalar, EmptyDelta, FailDelta}
use Rattle.hera_meaning.specs.declared.trees.Op.{Op}
use Rattle.hera_meaning.specs.declared.trees.Op.TheVariants.{Neg, Not, Add, Sub, Mul, Div, Rem, Eq, Ne, Lt, Le, Gt, Ge, In, Field, MakeRow, MakeRel, Project, Union, Minus, Inter, Join, Group, Count, Empty, Sum, Min, Max, Atom as atom_op, Bulk, Ins, Del, IsFail, Smash, Merge}
use Rattle.hera_meaning.specs.Printed.{number_text, inner_text}
use Rattle.hera_code.specs.declared.instrs.Instr.{Instr}
use Rattle.hera_code.specs.declared.instrs.Instr.TheVariants.{Push, Load, Store, Rel, Prim, Host, Jump, Unless, Back, Enter, Leave, Walk, Next, Keep, Gather, Yield, Drop, Call, Ret, RetVal, Print, Apply, Commit, Rollback, Assert, Halt}
use Rattle.hera_code.specs.declared.instrs.BodyInfo.{BodyInfo}
use Rattle.hera_code.specs.declared.instrs.Code.{Code}

-- the operation's name in lower-case letters, without its parts
abbrev pub op_text : Op → List ℕ
op_text Neg = codes "neg"
op_text Not = codes "not"
op_text Add = codes "add"
op_text Sub = codes "sub"
op_text Mul = codes "mul"
op_text Div = codes "div"
op_text Rem = codes "rem"
op_text Eq = codes "eq"
op_text Ne = codes "ne"
op_text Lt = codes "lt"
op_text Le = codes "le"
op_text Gt = codes "gt"
op_text Ge = codes "ge"
op_text In = codes "in"
op_text (Field schema i) = codes "field"
op_text (MakeRow schema) = codes "makerow"
op_text (MakeRel n) = codes "makerel"
op_text (Project schema places) = codes "project"
op_text Union = codes "union"
op_text Minus = codes "minus"
op_text Inter = codes "inter"
op_text (Join left right) = codes "join"
op_text (Group schema by aggs) = codes "group"
op_text Count = codes "count"
op_text Empty = codes "empty"
op_text (Sum schema i) = codes "sum"
op_text (Min schema i) = codes "min"
op_text (Max schema i) = codes "max"
op_text (atom_op sign r) = codes "atom"
op_text (Bulk sign r) = codes "bulk"
op_text (Ins r) = codes "ins"
op_text (Del r) = codes "del"
op_text IsFail = codes "isfail"
op_text Smash = codes "smash"
op_text Merge = codes "merge"

-- a scalar as inside a tuple, `{}` or `fail`
abbrev pub const_text : Const → List ℕ
const_text (Scalar s) = inner_text s
const_text EmptyDelta = codes "{}"
const_text FailDelta = codes "fail"

abbrev pub instr_text : Instr → List ℕ
instr_text (Push c) = codes "push " ++ const_text c
instr_text (Load i) = codes "load " ++ number_text i
instr_text (Store i) = codes "store " ++ number_text i
instr_text (Rel r) = codes "rel " ++ number_text r.0
instr_text (Prim op at) = codes "prim " ++ op_text op ++ codes " at " ++ number_text at
instr_text (Host h) = codes "host " ++ number_text h
instr_text (Jump a) = codes "jump " ++ number_text a
instr_text (Unless a) = codes "unless " ++ number_text a
instr_text (Back a) = codes "back " ++ number_text a
instr_text (Enter at) = codes "enter at " ++ number_text at
instr_text Leave = codes "leave"
instr_text Walk = codes "walk"
instr_text (Next i a) = codes "next " ++ number_text i ++ codes " " ++ number_text a
instr_text Keep = codes "keep"
instr_text Gather = codes "gather"
instr_text Yield = codes "yield"
instr_text Drop = codes "drop"
instr_text (Call k) = codes "call " ++ number_text k
instr_text Ret = codes "ret"
instr_text RetVal = codes "retval"
instr_text (Print shape) = codes "print"
instr_text (Apply at) = codes "apply at " ++ number_text at
instr_text Commit = codes "commit"
instr_text Rollback = codes "rollback"
instr_text (Assert at) = codes "assert at " ++ number_text at
instr_text Halt = codes "halt"

-- the line of a body
abbrev pub body_line : ℕ → BodyInfo → List ℕ
body_line k b = codes "body " ++ number_text k ++ codes " params " ++ number_text b.params ++ codes " slots " ++ number_text b.slots ++ codes "\n"

-- the line of an instruction: its address, a blank and its text
abbrev pub instr_line : ℕ → Instr → List ℕ
instr_line a i = number_text a ++ codes " " ++ instr_text i ++ codes "\n"

-- the lines of the instructions from an address on
abbrev pub instr_lines : ℕ → List Instr → List ℕ
instr_lines a [] = []
instr_lines a (i ∷ is) = instr_line a i ++ instr_lines (suc a) is

-- the first start of these bodies, else the end of the code
abbrev pub next_start : List BodyInfo → ℕ → ℕ
next_start [] end = end
next_start (b ∷ bodies) end = b.at

-- each body's line, and the lines of its instructions, which go up to the next start
abbrev pub bodies_text : ℕ → List BodyInfo → List Instr → List ℕ
bodies_text k [] is = []
bodies_text k (b ∷ bodies) is =
    body_line k b ++ instr_lines b.at (slice_range is b.at (next_start bodies (length is))) ++ bodies_text (suc k) bodies is

-- the listing of code
abbrev pub listing_of : Code → List ℕ
listing_of code = bodies_text 0 code.bodies code.instrs

-- the starts ascend strictly, from one that is at least a, and are addresses of code of this length
abbrev pub StartsFrom : ℕ → List BodyInfo → ℕ → Type 0
StartsFrom a [] end = Unit {0}
StartsFrom a (b ∷ bodies) end = (a ≤ b.at) × (b.at < end) × StartsFrom (suc b.at) bodies end

-- code that can be listed: it has a body, and the starts of its bodies ascend strictly from 0 and are addresses of it
pub record IsListable (code : Code) : Type 0 where
  pub main : BodyInfo
  pub first : slice_get code.bodies 0 ≡ Some main
  pub from_zero : main.at ≡ 0
  pub starts : StartsFrom 0 code.bodies (length code.instrs)
