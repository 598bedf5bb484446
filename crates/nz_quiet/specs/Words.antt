-- What an actor hears.
use Rattle.nz_base.specs.declared.actor.Actor.{Actor}
use Rattle.nz_msg.specs.declared.message.Message.{Message}

-- A message that is heard, with its sender.
abbrev pub Word : Type 0
Word = Actor × Message
