-- What has been read of a scenario, the tests of a line against it, and what a line adds.
use Rattle.std.specs.Prelude.{ℕ, ◌+◌, ◌*◌, Bool, true, false, not, ◌&&◌, ◌||◌, nat_le, nat_lt, ◌==◌, if◌then◌else◌, List, [], ◌∷◌, ◌++◌, length, Some, None}
use Rattle.std.specs.List.{list_any}
use Rattle.nz_base.specs.declared.actor.Actor.{Actor}
use Rattle.nz_base.specs.declared.actor.Actor.TheVariants.{Replica, Proxy, Client}
use Rattle.nz_base.specs.declared.scenario.Skew.{Skew}
use Rattle.nz_base.specs.declared.scenario.Fault.{Fault}
use Rattle.nz_base.specs.declared.scenario.Fault.TheVariants as fault
use Rattle.nz_base.specs.declared.scenario.Scenario.{Scenario}
use Rattle.nz_base.specs.Actor.{actor_eq, is_within}
use Rattle.nz_base.specs.Cluster.{replica_count}
use Rattle.nz_script.specs.declared.message.TheConstants.{KIND_COUNT}
use Rattle.nz_base.specs.declared.limits.TheConstants.{MAX_REQUESTS, MAX_REQUEST_TICKS, MAX_FAULTS, MAX_CHANCES}
use Rattle.nz_store.specs.declared.command.Command.{Command}
use Rattle.nz_store.specs.declared.command.Command.TheVariants as command
use Rattle.nz_store.specs.Grammar.{spelling}
use Rattle.nz_store.specs.Reading.{is_key_text, is_value_text}
use Rattle.nz_script.specs.declared.line_forms.Place.TheVariants as place
use Rattle.nz_script.specs.declared.line_forms.Head.{Head}
use Rattle.nz_script.specs.declared.line_forms.Head.TheVariants as head
use Rattle.nz_script.specs.declared.line_forms.Ask.{Ask}
use Rattle.nz_script.specs.declared.line_forms.Ask.TheVariants.{Put, Get, Del, Cas}
use Rattle.nz_script.specs.declared.line_forms.Mishap.{Mishap}
use Rattle.nz_script.specs.declared.line_forms.Mishap.TheVariants as mishap
use Rattle.nz_script.specs.declared.line_forms.Verb.{Verb}
use Rattle.nz_script.specs.declared.line_forms.Verb.TheVariants as verb
use Rattle.nz_script.specs.declared.line_forms.Form.{Form}
use Rattle.nz_script.specs.declared.line_forms.Form.TheVariants as form
use Rattle.nz_script.specs.declared.word.Word.{Word}
use Rattle.nz_script.specs.declared.word.Word.TheVariants as word
use Rattle.nz_script.specs.declared.line.Line.{Line}
use Rattle.nz_script.specs.declared.group.Group.{Group}
use Rattle.nz_script.specs.declared.draft.Draft.{Draft}
use Rattle.nz_script.specs.Shapes.{place_rank, verb_place, forms_of}
use Rattle.nz_script.specs.Forms.{number_in, byte_in, units_in, actor_in, actors_in, kind_in, text_in, choice_in}

-- ---- version

-- A text of this version has lines of this sort: `window` is a word of version 2 alone.
abbrev pub version_has : ℕ → Verb → Bool
version_has version (verb.Head head.Window) = version == 2
version_has version _ = true

-- ---- order

-- A client's line comes in its turn, or names nobody whose turn could come.
abbrev pub is_turn : Draft → List Word → Bool
is_turn d [] = true
is_turn d (word.Named (Client c) ∷ words) = not (nat_lt c d.group.clients) || (c == length d.scripts)
is_turn d (_ ∷ words) = true

-- Skews come before all blocks, and the blocks in the order of the clients.
abbrev pub is_in_turn : Draft → Verb → List Word → Bool
is_in_turn d verb.Skew words = length d.scripts == 0
is_in_turn d verb.Client words = is_turn d words
is_in_turn d _ words = true

-- The line is in its place.
abbrev pub keeps_order : Draft → Line → Bool
keeps_order d line = (place_rank d.place == place_rank (verb_place line.verb)) && is_in_turn d line.verb line.words

-- ---- names

-- The actor is of the cluster.
abbrev pub knows : Group → Actor → Bool
knows g (Replica r) = nat_lt r (replica_count g.cluster)
knows g (Proxy p) = nat_lt p g.proxies
knows g (Client c) = nat_lt c g.clients

-- Whether the actor is a replica or a proxy.
abbrev pub is_server : Actor → Bool
is_server (Client c) = false
is_server _ = true

-- Whether the actor is a replica.
abbrev pub is_replica : Actor → Bool
is_replica (Replica r) = true
is_replica _ = false

-- Whether the actor is a client.
abbrev pub is_client : Actor → Bool
is_client (Client c) = true
is_client _ = false

-- The actor is of the sort that is expected here.
abbrev pub suits : Form → Actor → Bool
suits form.Server a = is_server a
suits form.Replica a = is_replica a
suits form.Client a = is_client a
suits _ a = true

-- What the word names is there.
abbrev pub is_known : Group → Form → Word → Bool
is_known g f (word.Named a) = suits f a && knows g a
is_known g f (word.Kind None) = false
is_known g f (word.Kind (Some kind)) = is_within 1 KIND_COUNT kind
is_known g f _ = true

-- Whether the actors and kinds in the words, each of its form, are there.
abbrev pub all_known : Group → List Form → List Word → Bool
all_known g [] words = true
all_known g (f ∷ forms) [] = true
all_known g (f ∷ forms) (w ∷ words) = is_known g f w && all_known g forms words

-- The actor's clock has a skew already.
abbrev pub has_skew : List Skew → Actor → Bool
has_skew skews a = list_any (λ s. actor_eq s.actor a) skews

-- A skew is the first of its actor.
abbrev pub is_new_skew : Draft → Verb → List Word → Bool
is_new_skew d verb.Skew words = not (has_skew d.skews (actor_in 0 words))
is_new_skew d _ words = true

-- Its actors are those of the cluster and of their sorts, its kinds are there, and a skew is the actor's first.
abbrev pub names_known : Draft → Line → Bool
names_known d line = all_known d.group (forms_of line.verb) line.words && is_new_skew d line.verb line.words

-- ---- limits

-- Whether the word is a number from the least to the most.
abbrev pub has_number : ℕ → ℕ → Word → Bool
has_number least most (word.Number n) = nat_le least n && nat_le n most
has_number least most _ = false

-- Whether the word is a skew of at most 2^62 units, either way.
abbrev pub has_units : Word → Bool
has_units (word.Units back n) = nat_le n 4611686018427387904
has_units _ = false

-- Whether the word is a key.
abbrev pub is_key_word : Word → Bool
is_key_word (word.Text text) = is_key_text text
is_key_word _ = false

-- Whether the word is a value.
abbrev pub has_value : Word → Bool
has_value (word.Text text) = is_value_text text
has_value _ = false

-- Whether the word is a value, or `-` for none.
abbrev pub has_choice : Word → Bool
has_choice word.Nothing = true
has_choice w = has_value w

-- The number or the length is in the range of the form.
abbrev pub word_within : Form → Word → Bool
word_within (form.Number least most) w = has_number least most w
word_within form.Units w = has_units w
word_within form.Key w = is_key_word w
word_within form.Value w = has_value w
word_within form.Choice w = has_choice w
word_within _ w = true

-- Whether the words, each of its form, are within their limits.
abbrev pub all_within : List Form → List Word → Bool
all_within [] words = true
all_within (f ∷ forms) [] = false
all_within (f ∷ forms) (w ∷ words) = word_within f w && all_within forms words

-- No more requests, and no more requests times ticks, than a scenario has at most.
abbrev pub has_room_for_requests : ℕ → ℕ → Bool
has_room_for_requests requests ticks = nat_le requests MAX_REQUESTS && nat_le (requests * ticks) MAX_REQUEST_TICKS

-- No more faults, and no more requests times faults, than a scenario has at most.
abbrev pub has_room_for_faults : ℕ → ℕ → Bool
has_room_for_faults requests faults = nat_le faults MAX_FAULTS && nat_le (requests * faults) MAX_CHANCES

-- With this line there are not too many of its sort.
abbrev pub has_room_for_line : Draft → Verb → Bool
has_room_for_line d (verb.Ask a) = has_room_for_requests (d.requests + 1) d.ticks
has_room_for_line d (verb.Mishap m) = has_room_for_faults d.requests (length d.faults + 1)
has_room_for_line d _ = true

-- The ticks of a block are in order.
abbrev pub is_span : Verb → List Word → Bool
is_span (verb.Mishap mishap.Block) words = nat_le (number_in 2 words) (number_in 3 words)
is_span _ words = true

-- Its numbers and lengths are in range, and so are the sums and the products with it.
abbrev pub within_limits : Draft → Line → Bool
within_limits d line = (all_within (forms_of line.verb) line.words && is_span line.verb line.words) && has_room_for_line d line.verb

-- ---- what a line adds

-- The command that the words spell, by its first word.
abbrev pub command_asked : Ask → List Word → Command
command_asked Put words = command.Put (text_in 0 words) (text_in 1 words)
command_asked Get words = command.Get (text_in 0 words)
command_asked Del words = command.Del (text_in 0 words)
command_asked Cas words = command.Cas (text_in 0 words) (choice_in 1 words) (choice_in 2 words)

-- The fault that the words spell, by its first word.
abbrev pub fault_in : Mishap → List Word → Fault
fault_in mishap.Drop words = fault.Drop (actor_in 0 words) (actor_in 1 words) (kind_in 2 words) (number_in 3 words)
fault_in mishap.Hold words = fault.Hold (actor_in 0 words) (actor_in 1 words) (kind_in 2 words) (number_in 3 words) (number_in 4 words)
fault_in mishap.Twice words = fault.Twice (actor_in 0 words) (actor_in 1 words) (kind_in 2 words) (number_in 3 words) (number_in 4 words)
fault_in mishap.Cut words = fault.Cut (actor_in 0 words) (actor_in 1 words) (kind_in 2 words) (number_in 3 words) (number_in 4 words)
fault_in mishap.Block words = fault.Block (actors_in 0 words) (actors_in 1 words) (number_in 2 words) (number_in 3 words)
fault_in mishap.Crash words = fault.Crash (actor_in 0 words) (number_in 1 words)
fault_in mishap.Restart words = fault.Restart (actor_in 0 words) (number_in 1 words)
fault_in mishap.Alarm words = fault.Alarm (actor_in 0 words) (number_in 1 words)

-- The draft after a line of the head: its number is noted, and the next line is expected.
abbrev pub with_head : Draft → Head → List Word → Draft
with_head d head.Version words = record d { place = place.Faulty; version = byte_in 0 words }
with_head d head.Faulty words = record d { place = place.Proxies; group = record d.group { cluster = byte_in 0 words } }
with_head d head.Proxies words = record d { place = place.Clients; group = record d.group { proxies = byte_in 0 words } }
with_head d head.Clients words = record d { place = place.Ticks; group = record d.group { clients = byte_in 0 words } }
with_head d head.Ticks words = record d { place = if d.version == 2 then place.Window else place.Between; ticks = number_in 0 words }
with_head d head.Window words = record d { place = place.Between; group = record d.group { window = byte_in 0 words } }

-- The skew that the words spell.
abbrev pub skew_in : List Word → Skew
skew_in words = record { actor = actor_in 0 words; units = units_in 1 words }

-- The wait that was read last holds for this request alone.
abbrev pub with_request : Draft → Command → Draft
with_request d c = record d { block = d.block ++ (record { wait = d.wait; command = spelling c }) ∷ []; wait = 0; requests = d.requests + 1 }

-- The block is whole, and a wait without a request after it is forgotten.
abbrev pub with_script : Draft → Draft
with_script d = record d {
  place = if length d.scripts + 1 == d.group.clients then place.Mishaps else place.Between;
  scripts = d.scripts ++ d.block ∷ [];
  block = [];
  wait = 0;
}

-- What has been read with this line.
abbrev pub with_words : Draft → Verb → List Word → Draft
with_words d (verb.Head h) words = with_head d h words
with_words d verb.Skew words = record d { skews = d.skews ++ skew_in words ∷ [] }
with_words d verb.Client words = record d { place = place.Block }
with_words d (verb.Ask a) words = with_request d (command_asked a words)
with_words d verb.Wait words = record d { wait = number_in 0 words }
with_words d verb.End words = with_script d
with_words d (verb.Mishap m) words = record d { faults = d.faults ++ fault_in m words ∷ [] }
with_words d verb.Done words = record d { place = place.Ended }

-- Before the first line: the window is 1 where no line gives it, and the other numbers of the head are set before
-- they are used.
abbrev pub first_draft : Draft
first_draft = record {
  place = place.Version;
  version = 1;
  group = record { cluster = 1; proxies = 1; clients = 1; window = 1 };
  ticks = 1;
  skews = [];
  scripts = [];
  block = [];
  wait = 0;
  requests = 0;
  faults = [];
}

-- The scenario that a draft has come to.
abbrev pub scenario_of : Draft → Scenario
scenario_of d = record {
  cluster = d.group.cluster;
  proxies = d.group.proxies;
  clients = d.group.clients;
  window = d.group.window;
  ticks = d.ticks;
  skews = d.skews;
  scripts = d.scripts;
  faults = d.faults;
}
