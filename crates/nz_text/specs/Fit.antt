-- What can be printed, so that its text says it.
use Rattle.std.specs.Prelude.{◌<◌, ◌^◌, length, IsSome, IsTrue}
use Rattle.std.specs.List.{AllByRecursion}
use Rattle.nz_base.specs.declared.key.Id.{Id}
use Rattle.nz_store.specs.declared.command.Answer.{Answer}
use Rattle.nz_store.specs.declared.command.Answer.TheVariants.{Done, Value, Absent, Differs}
use Rattle.nz_store.specs.Reading.{is_value_text, command_of}
use Rattle.nz_machine.specs.declared.journal.Executed.{Executed}
use Rattle.nz_machine.specs.declared.client_event.ClientEvent.{ClientEvent}
use Rattle.nz_machine.specs.declared.client_event.ClientEvent.TheVariants.{Sent, Accepted}
use Rattle.nz_text.specs.declared.printed.Printed.{Printed}

-- An id as 32 bits hold it.
pub record FitsId (id : Id) : Type 0 where
  pub client : id.client < 2 ^ 32
  pub num : id.num < 2 ^ 32

-- A value is one that commands have.
abbrev pub FitsAnswer : Answer → Type 0
FitsAnswer (Value value) = IsTrue (is_value_text value)
FitsAnswer Done = Unit {0}
FitsAnswer Absent = Unit {0}
FitsAnswer Differs = Unit {0}

-- The bytes of a request are a command.
abbrev pub FitsEvent : ClientEvent → Type 0
FitsEvent (Sent id command) = FitsId id × IsSome (command_of command)
FitsEvent (Accepted id answer path) = FitsId id × FitsAnswer answer

-- An entry of a history that can be printed.
pub record FitsExecuted (e : Executed) : Type 0 where
  pub id : FitsId e.id
  pub command : IsSome (command_of e.command)
  pub answer : FitsAnswer e.answer

-- What can be printed and read back.
pub record FitsPrinted (p : Printed) : Type 0 where
  pub events : AllByRecursion FitsEvent p.events
  pub unanswered : AllByRecursion FitsId p.unanswered
  pub history : AllByRecursion FitsExecuted p.history
  pub few : length p.history < 2 ^ 32
