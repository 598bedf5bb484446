-- What the function of this folder owes, proved.
use Rattle.std.proofs.Common.{append_assoc}
use Rattle.nz_msg.specs.Codec.{number_bytes}
use Rattle.nz_msg.proofs.spelling.put_timed.Goals as goal

pub returns : goal.returns
unfolding number_bytes
returns g c rest =
    let head = c.in_ok-put_slice.ensures.ok in
    let text = c.in_ok-put_slice-2.ensures.ok in
    rw (text, head, c.timed_head.ensures, c.as_slice-command.ensures) (simp append_assoc)
