-- Which replies support a leader's reply, each looked at by itself.
use Rattle.std.specs.Prelude.{Bool, true, false, ◌&&◌, ◌==◌, Option, Some, None}
use Rattle.std.specs.Str.{bytes_eq}
use Rattle.nz_msg.specs.declared.message.Path.{Path}
use Rattle.nz_msg.specs.declared.message.Path.TheVariants as paths
use Rattle.nz_machine.specs.declared.reply.Reply.{Reply}
use Rattle.nz_machine.specs.declared.reply.Reply.TheVariants.{Fast, Slow}
use Rattle.nz_machine.specs.rules.Quorums.{of_lesser_view}

-- Whether the path is fast.
abbrev pub is_fast : Path → Bool
is_fast paths.Fast = true
is_fast paths.Slow = false

-- The sender of the second reply supports the first one.
abbrev pub supports : Path → Reply → Reply → Bool
supports path (Fast r view digest vector answer) (Slow s w) = w == view
supports path (Fast r view digest vector answer) (Fast s w d u b) = is_fast path && ((w == view) && (bytes_eq d digest && bytes_eq u vector))
supports path (Slow r view) reply = false

-- The one of the lesser view, else the first.
abbrev pub least_so_far : Option Reply → Reply → Reply
least_so_far None reply = reply
least_so_far (Some best) reply = of_lesser_view best (Some reply)
