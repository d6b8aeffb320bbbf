-- Which formats have their halves read again.
use Rattle.std.specs.Prelude.{◌≡◌, ◌≤◌, length}
use Rattle.rel_format.specs.declared.version.TheConstants.{MAGIC_LEN}
use Rattle.rel_format.specs.Pages.{Format, page_head}

-- a magic of 8 bytes, and pages that have room for their head and whose rows are counted in 2 bytes
pub record IsFormat (f : Format) : Type 0 where
  pub magic : length f.magic ≡ MAGIC_LEN
  pub roomy : page_head ≤ f.page
  pub counted : f.page ≤ 65536
