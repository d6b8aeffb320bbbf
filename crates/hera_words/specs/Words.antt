-- What the words of the command line ask for.
use Rattle.std.specs.Prelude.{ℕ, ◌+◌, ◌-◌, ◌==◌, ◌&&◌, nat_le, Bool, true, false, cond, List, [], ◌∷◌, Option, Some, None, String, string_bytes, bytes_eq, map, zero, suc, length, codes, if◌then◌else◌}
use Rattle.std.specs.declared.alloc.Global.{Global}
use Rattle.hera_words.specs.declared.command.Command.{Command}
use Rattle.hera_words.specs.declared.command.Command.TheVariants.{Check, List as list_command, Eval, Pack, Exec, Drill, Init, Run, Dump, Checkpoint, Widen, Import, Export, Guard, Weave}
use Rattle.hera_words.specs.declared.form.Form.{Form}
use Rattle.hera_words.specs.declared.form.Number.{Number}
use Rattle.hera_words.specs.declared.form.Number.TheVariants.{Absent, Turns, Rows}
use Rattle.hera_words.specs.Numbers.{width_of, number_in, order_in}

-- the bytes of each word
abbrev pub words_of : List (String Global) → List (List ℕ)
words_of words = map string_bytes words

-- ---- the table

-- a weave of so many files, which are from 1 to 64
abbrev pub weave_of : (turns order files : ℕ) → Option Command
weave_of turns order files = if nat_le 1 files && nat_le files 64 then Some (Weave turns order files) else None

-- the command of a name, with these numbers and so many files where it has some
abbrev pub command_named : (name : List ℕ) (number order files : ℕ) → Option Command
command_named name n order files =
    if bytes_eq name (codes "check") then Some Check else (if bytes_eq name (codes "list") then Some list_command else (
    if bytes_eq name (codes "eval") then Some (Eval n) else (if bytes_eq name (codes "pack") then Some Pack else (
    if bytes_eq name (codes "exec") then Some (Exec n) else (if bytes_eq name (codes "drill") then Some (Drill n) else (
    if bytes_eq name (codes "init") then Some Init else (if bytes_eq name (codes "run") then Some (Run n) else (
    if bytes_eq name (codes "dump") then Some Dump else (if bytes_eq name (codes "checkpoint") then Some Checkpoint else (
    if bytes_eq name (codes "widen") then Some Widen else (if bytes_eq name (codes "import") then Some Import else (
    if bytes_eq name (codes "export") then Some Export else (if bytes_eq name (codes "guard") then Some (Guard n) else (
    if bytes_eq name (codes "weave") then weave_of n order files else None))))))))))))))

abbrev pub form : (folder : Bool) (number : Number) (files : ℕ) → Form
form folder number files = record { folder = folder; relation = false; number = number; order = false; files = files }

-- a folder, a relation of it and so many files
abbrev pub of_a_relation : (files : ℕ) → Form
of_a_relation files = record { folder = true; relation = true; number = Absent; order = false; files = files }

-- a folder, both numbers and so many files
abbrev pub of_sessions : (files : ℕ) → Form
of_sessions files = record { folder = true; relation = false; number = Turns; order = true; files = files }

-- the words behind its name
abbrev pub form_of : Command → Form
form_of Check = form false Absent 1
form_of list_command = form false Absent 1
form_of (Eval turns) = form false Turns 1
form_of Pack = form false Absent 1
form_of (Exec turns) = form false Turns 1
form_of (Drill rows) = form false Rows 0
form_of Init = form true Absent 1
form_of (Run turns) = form true Turns 1
form_of Dump = form true Absent 0
form_of Checkpoint = form true Absent 0
form_of Widen = form true Absent 1
form_of Import = of_a_relation 1
form_of Export = of_a_relation 0
form_of (Guard turns) = form true Turns 2
form_of (Weave turns order files) = of_sessions files

-- ---- the words

-- where the relation stands, and the number, and that of an order, and the first file, behind the name
abbrev pub relation_place : Form → ℕ
relation_place f = cond f.folder 1 0

abbrev pub number_place : Form → ℕ
number_place f = relation_place f + cond f.relation 1 0

abbrev pub order_place : Form → ℕ
order_place f = number_place f + width_of f.number

abbrev pub files_place : Form → ℕ
files_place f = order_place f + cond f.order 1 0

-- the word at a place, empty past the last
abbrev pub word_at : ℕ → List (List ℕ) → List ℕ
word_at i [] = []
word_at zero (word ∷ words) = word
word_at (suc i) (word ∷ words) = word_at i words

-- a command that has so many words behind its name
abbrev pub with_words : ℕ → Option Command → Option Command
with_words count None = None
with_words count (Some command) = if count == files_place (form_of command) + (form_of command).files then Some command else None

-- the command of a name, where its words give both numbers, and so many files
abbrev pub with_numbers : (name : List ℕ) → Option ℕ → Option ℕ → (files : ℕ) → Option Command
with_numbers name None order files = None
with_numbers name (Some number) None files = None
with_numbers name (Some number) (Some order) files = command_named name number order files

-- the command of a name of this form, the numbers that its words give and how many files there are
abbrev pub numbered_by : Form → (name : List ℕ) → (words : List (List ℕ)) → Option Command
numbered_by f name words = with_numbers name (number_in f.number (word_at (number_place f) words)) (order_in f.order (word_at (order_place f) words)) (length words - files_place f)

-- the command of a name and the words behind it, where it has so many
abbrev pub command_by : Option Command → (name : List ℕ) → (words : List (List ℕ)) → Option Command
command_by None name words = None
command_by (Some command) name words = with_words (length words) (numbered_by (form_of command) name words)

-- the command of the words, where they are a listed form
abbrev pub command_of : List (List ℕ) → Option Command
command_of [] = None
command_of (name ∷ words) = command_by (command_named name 0 0 1) name words

-- the places of the FILE words, from the first to behind the last
abbrev pub files_in : Option Command → ℕ × ℕ
files_in None = (0, 0)
files_in (Some command) = if (form_of command).files == 0 then (0, 0) else (1 + files_place (form_of command), 1 + files_place (form_of command) + (form_of command).files)

-- the place of the DIR word
abbrev pub folder_in : Option Command → Option ℕ
folder_in None = None
folder_in (Some command) = cond (form_of command).folder (Some 1) None

-- the name of a relation, empty where there is none
abbrev pub relation_in : Option Command → List (List ℕ) → List ℕ
relation_in None words = []
relation_in (Some command) words = cond (form_of command).relation (word_at (1 + relation_place (form_of command)) words) []
