-- The lines of refusals, and their statuses.
use Rattle.std.specs.Prelude.{ℕ, List, ◌++◌, codes}
use Rattle.hera_meaning.specs.Printed.{end_text}
use Rattle.hera_script.specs.Labels as script
use Rattle.hera_volume.specs.declared.file_id.FileId.{FileId}
use Rattle.hera_volume.specs.declared.file_id.FileId.TheVariants.{Select, Left, Right}
use Rattle.hera_outcome.specs.declared.refusal.Refusal.{Refusal}
use Rattle.hera_outcome.specs.declared.refusal.Refusal.TheVariants.{Usage, Unread, Script, Exists, NoDatabase, Damaged, Differing, Narrows, NoRelation, Record, BadCode, Rejected}

-- how the line of damage in a file begins
abbrev pub label_of : FileId → List ℕ
label_of Select = codes "damaged select"
label_of Left = codes "damaged left"
label_of Right = codes "damaged right"

abbrev pub line_of : Refusal → List ℕ
line_of Usage = codes "usage\n"
line_of Unread = codes "script unread\n"
line_of (Script cause at) = end_text (script.label_of cause) at
line_of Exists = codes "database exists\n"
line_of NoDatabase = codes "no database\n"
line_of (Damaged file at) = end_text (label_of file) at
line_of (Differing name) = codes "differs " ++ name ++ codes "\n"
line_of (Narrows name) = codes "narrows " ++ name ++ codes "\n"
line_of NoRelation = codes "no relation\n"
line_of (Record number) = end_text (codes "refused Record") number
line_of (BadCode at) = end_text (codes "refused BadCode") at
line_of (Rejected at) = end_text (codes "refused Rejected") at

abbrev pub status_of_refusal : Refusal → ℕ
status_of_refusal Usage = 2
status_of_refusal Unread = 7
status_of_refusal (Script cause at) = 3
status_of_refusal Exists = 5
status_of_refusal NoDatabase = 5
status_of_refusal (Damaged file at) = 5
status_of_refusal (Differing name) = 5
status_of_refusal (Narrows name) = 5
status_of_refusal NoRelation = 5
status_of_refusal (Record number) = 3
status_of_refusal (BadCode at) = 3
status_of_refusal (Rejected at) = 3
