-- The sizes of clusters.
use Rattle.std.proofs.Common.{◌≡◌, ℕ, true}
use Rattle.nz_cv.specs.Vectors.{IsClusterSize}
use Rattle.nz_msg.specs.Fields.{is_cluster_size}
use Rattle.std.proofs.lemmas.Bool.{le-leb, eq-eqb, and_from}

-- the size of a cluster passes the test of frames
pub size_passes : (n : ℕ) → IsClusterSize n → is_cluster_size n ≡ true
size_passes n size = and_from _ _ (and_from _ _ (le-leb 3 n size.least) (le-leb n 9 size.most)) (eq-eqb _ _ size.odd)
