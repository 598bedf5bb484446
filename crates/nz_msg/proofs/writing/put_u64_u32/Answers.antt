-- What the function of this folder owes, proved.
use Rattle.std.proofs.Common.{append_assoc}
use Rattle.nz_msg.specs.Codec.{number_bytes}
use Rattle.nz_msg.proofs.writing.put_u64_u32.Goals as goal

pub returns : goal.returns
unfolding number_bytes
returns g c rest = rw (c.in_ok-put_slice.ensures.ok, c.write_u32.ensures, c.write_u64.ensures) (simp append_assoc)
