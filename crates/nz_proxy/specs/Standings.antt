-- What the code keeps of a request, against what the machine says is known of it.
use Rattle.std.specs.Prelude.{ℕ, ◌≡◌, ◌≤◌, List, [], ◌∷◌, map, Option, Some, None, IfSome}
use Rattle.std.specs.List.{AllByRecursion}
use Rattle.nz_base.specs.declared.key.Id.{Id}
use Rattle.nz_base.specs.declared.limits.TheConstants.{MAX_CLIENT}
use Rattle.nz_store.specs.declared.command.Answer.{Answer}
use Rattle.nz_msg.specs.declared.message.Path.{Path}
use Rattle.nz_msg.specs.Fields as fields
use Rattle.nz_machine.specs.declared.reply.Reply.{Reply}
use Rattle.nz_machine.specs.rules.State.{Out, Open, Decided}
use Rattle.nz_machine.specs.rules.State.{Standing as StandingModel}
use Rattle.nz_machine.specs.rules.Quorums.{Chosen, decision, answer_in, with_note}
use Rattle.nz_machine.specs.rules.Proxies.{answer_to_client}
use Rattle.nz_quorum.specs.Tallies.{TallyData, IsOfCluster}
use Rattle.nz_proxy.specs.declared.standing.Standing.{Standing}
use Rattle.nz_proxy.specs.declared.standing.Standing.TheVariants as kept

-- A standing as the machine has it.
abbrev pub known_standing : Standing → StandingModel
known_standing (kept.Open tally) = Open tally.replies
known_standing (kept.Decided answer path) = Decided answer path

-- The same of a table.
abbrev pub known_standings : List (Id × Standing) → List (Id × StandingModel)
known_standings entries = map (λ e. (e.0, known_standing e.1)) entries

-- ---- noting a reply

-- The standing with an answer that was decided, if there is one.
abbrev pub standing_on_path : TallyData → Path → Option Answer → Standing
standing_on_path tally path None = kept.Open tally
standing_on_path tally path (Some answer) = kept.Decided answer path

-- The standing after a decision, if there is one.
abbrev pub standing_of_choice : TallyData → Option Chosen → Standing
standing_of_choice tally None = kept.Open tally
standing_of_choice tally (Some chosen) = standing_on_path tally chosen.path (answer_in chosen.reply)

-- The tally with one more reply noted.
abbrev pub tally_with_reply : TallyData → Reply → TallyData
tally_with_reply tally reply = record tally { replies = with_note tally.replies reply }

-- The standing after a reply.
abbrev pub standing_with_reply : Standing → Reply → Standing
standing_with_reply (kept.Open tally) reply = let t = tally_with_reply tally reply in standing_of_choice t (decision t.f t.replies)
standing_with_reply (kept.Decided answer path) reply = kept.Decided answer path

-- ---- what then goes to the client

-- The answer that goes to the client, if there is one.
abbrev pub answer_on_path : Path → Option Answer → Option (Answer × Path)
answer_on_path path None = None
answer_on_path path (Some answer) = Some (answer, path)

-- The same of a decision, if there is one.
abbrev pub answer_of_choice : Option Chosen → Option (Answer × Path)
answer_of_choice None = None
answer_of_choice (Some chosen) = answer_on_path chosen.path (answer_in chosen.reply)

-- The answer that goes to the client after a reply, if it decides.
abbrev pub answer_after_reply : Standing → Reply → Option (Answer × Path)
answer_after_reply (kept.Open tally) reply = let t = tally_with_reply tally reply in answer_of_choice (decision t.f t.replies)
answer_after_reply (kept.Decided answer path) reply = None

-- What is sent to the client.
abbrev pub answers_to_client : Id → Option (Answer × Path) → List Out
answers_to_client id None = []
answers_to_client id (Some t) = answer_to_client id t.0 t.1 ∷ []

-- ---- what is kept of the cluster

-- A frame can carry the answer, if there is one.
pub record HasFitAnswer (reply : Reply) : Type 0 where
  pub answer : IfSome (answer_in reply) fields.answer.fits

-- The reply may be noted there.
abbrev pub IsNotable : Standing → Reply → Type 0
IsNotable (kept.Open tally) reply = IsOfCluster tally.f reply
IsNotable (kept.Decided answer path) reply = Unit {0}

-- A tally is of the cluster, and frames can carry the answers.
abbrev pub IsFitStanding : ℕ → Standing → Type 0
IsFitStanding f (kept.Open tally) = (tally.f ≡ f) × AllByRecursion HasFitAnswer tally.replies
IsFitStanding f (kept.Decided answer path) = fields.answer.fits answer

-- The entry of the table has a client's id, and its standing is fit.
pub record IsFitEntry (f : ℕ) (entry : Id × Standing) : Type 0 where
  pub client : entry.0.client ≤ MAX_CLIENT
  pub standing : IsFitStanding f entry.1
