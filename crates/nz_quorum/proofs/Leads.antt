-- What the loop that looks for the lead keeps.
use Rattle.std.proofs.Common.{Option, Some, None}
use Rattle.nz_machine.specs.declared.reply.Reply.{Reply}
use Rattle.nz_machine.specs.rules.Quorums.{of_lesser_view}

-- of what was gone through, and of what is left
abbrev pub joined : Option Reply → Option Reply → Option Reply
joined None rest = rest
joined (Some best) rest = Some (of_lesser_view best rest)
