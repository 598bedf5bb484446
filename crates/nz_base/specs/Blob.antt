-- What a blob holds.
use Rattle.std.specs.Prelude.{ℕ, List}
use Rattle.nz_base.specs.declared.blob.Storage.{Storage}
use Rattle.nz_base.specs.declared.blob.Storage.TheVariants.{Own, Share}

-- The bytes that are stored, in a vector or as a share.
abbrev pub bytes_in : Storage → List ℕ
bytes_in (Own bytes) = bytes.items
bytes_in (Share bytes) = bytes
