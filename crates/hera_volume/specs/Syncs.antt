-- When each of the three files in memory was last synced.
use Rattle.std.specs.Prelude.{ℕ}
use Rattle.hera_volume.specs.declared.file_id.FileId.{FileId}
use Rattle.hera_volume.specs.declared.file_id.FileId.TheVariants.{Select, Left, Right}
use Rattle.hera_volume.specs.declared.syncs.Syncs.{Syncs}

abbrev pub sync_in : Syncs → FileId → ℕ
sync_in syncs Select = syncs.select
sync_in syncs Left = syncs.left
sync_in syncs Right = syncs.right

-- the same with another moment of one file
abbrev pub with_sync : Syncs → FileId → ℕ → Syncs
with_sync syncs Select t = record syncs { select = t }
with_sync syncs Left t = record syncs { left = t }
with_sync syncs Right t = record syncs { right = t }
