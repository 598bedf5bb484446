-- What a proxy knows of a request after some records, with the sources of its replies, by the definition of the
-- history.
use Rattle.std.specs.Prelude.{ℕ, List, map, Option, Some, None, is_some, if◌then◌else◌}
use Rattle.nz_base.specs.declared.key.Id.{Id}
use Rattle.nz_base.specs.declared.actor.Actor.TheVariants.{Proxy}
use Rattle.nz_machine.specs.declared.event.Record.{Record}
use Rattle.nz_machine.specs.declared.reply.Reply.{Reply}
use Rattle.nz_machine.specs.rules.State.{Group, Standing, Open, Decided}
use Rattle.nz_machine.specs.rules.Quorums.{answer_in}
use Rattle.nz_machine.specs.runs.History.{standing_after, source_of_reply, source_of_sender}
use Rattle.nz_audit.specs.declared.accepted.answers.Source.{Source}
use Rattle.nz_audit.specs.declared.sources.notes.Noted.{Noted}
use Rattle.nz_audit.specs.declared.sources.notes.Noted.TheVariants as noted
use Rattle.nz_audit.specs.Sources.{in_numbers}

-- The source of a noted reply, if it has an answer.
abbrev pub source_noted : Group → ℕ → Id → List Record → Reply → Option Source
source_noted g q id J reply = if is_some (answer_in reply) then in_numbers (source_of_reply g q id J reply) else None

-- What is kept of a request in this standing: the replies with their sources, or the source of the decision.
abbrev pub memory_of : Group → ℕ → Id → List Record → Option Standing → Option Noted
memory_of g q id J None = None
memory_of g q id J (Some (Open replies)) =
    Some (noted.Open (record { tally = record { f = g.f; replies = replies }; sources = map (source_noted g q id J) replies }))
memory_of g q id J (Some (Decided answer path)) = Some (noted.Decided (in_numbers (source_of_sender g id (Proxy q) J)))

-- What is kept of a request after the records.
abbrev pub memory : Group → ℕ → Id → List Record → Option Noted
memory g q id J = memory_of g q id J (standing_after g q id J)
