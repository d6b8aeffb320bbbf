-- What the program lends to scripts.
use Rattle.std.specs.Prelude.{List, [], ◌∷◌, pos, codes}
use Rattle.hera_meaning.specs.declared.hosts.HostSpec.{HostSpec}
use Rattle.hera_meaning.specs.declared.hosts.HostSpec.TheVariants.{Band, Bucket, Prefix, Clamp}
use Rattle.hera_host.specs.Tables.{Host, host}

abbrev pub band_spec : HostSpec
band_spec = Band (pos 0) (pos 100)

abbrev pub bucket_spec : HostSpec
bucket_spec = Bucket 10

abbrev pub is_sku_spec : HostSpec
is_sku_spec = Prefix (codes "SKU-")

abbrev pub clamp_spec : HostSpec
clamp_spec = Clamp (pos 0) (pos 100)

-- in the order of their numbers
abbrev pub lent_hosts : List Host
lent_hosts = host (codes "band") band_spec ∷ host (codes "bucket") bucket_spec ∷ host (codes "is_sku") is_sku_spec ∷ host (codes "clamp") clamp_spec ∷ []
