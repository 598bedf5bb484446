-- What is accepted in a view is the beginning of the log that the view's leader leads with, however far the run goes on.
use Rattle.std.proofs.Common.{◌≡◌, ℕ, suc, List, length, take, Option, Some, sym, ap, subst, ◌∙◌}
use Rattle.std.proofs.Math.Seq.{take-append_seam}
use Rattle.nz_base.specs.declared.key.Id.{Id}
use Rattle.nz_base.specs.declared.key.Entry.{Entry}
use Rattle.nz_base.specs.Prefixes.{IsPrefix}
use Rattle.nz_base.proofs.Prefixes.{prefix_then}
use Rattle.nz_store.specs.declared.command.Answer.{Answer}
use Rattle.nz_log.specs.Places.{place_of}
use Rattle.nz_machine.specs.declared.event.Record.{Record}
use Rattle.nz_machine.specs.rules.State.{Group}
use Rattle.nz_machine.specs.runs.World.{World}
use Rattle.nz_machine.specs.runs.History.{cut_at, cut_after}
use Rattle.nz_machine.specs.runs.Leading.{lead}
use Rattle.nz_machine.specs.runs.Committed.{IsAcceptedIn}
use Rattle.nz_machine.proofs.lists.LogPlaces.{place_kept}
use Rattle.nz_laws_commit.proofs.Answering.{IsGiven}
use Rattle.nz_laws_commit.proofs.Instance.{led_log}
use Rattle.nz_laws_commit.proofs.Accepted.{decided_in}
use Rattle.nz_laws_commit.proofs.Committing.{lead_grown}
use Rattle.nz_laws_commit.proofs.Whole.{follows}

-- a prefix that ends with the entry of a request is cut after it
cut_is : (id : Id) (P log : List Entry) (place : ℕ) → place_of P id ≡ Some place → length P ≡ suc place → IsPrefix P log → P ≡ cut_after id log
cut_is id P log place place_is ends p =
    sym (ap (λ (o : Option ℕ). cut_at o log) (place_kept P log id place p place_is)
    ∙ ap (λ n. take n log) (sym ends) ∙ ap (take (length P)) p.whole ∙ take-append_seam P p.rest)

given_led : (g : Group) (J : List Record) (v : ℕ) (id : Id) (a : Answer) (P : List Entry) → World g J → IsGiven g J v id a P → IsPrefix P (lead g v J)
given_led g J v id a P w h =
    let then : IsPrefix P (lead g v h.moment) = subst (IsPrefix P) (sym (led_log g v h.moment h.led)) h.from.prefix in
    prefix_then P (lead g v h.moment) (lead g v J) then (lead_grown g J w (follows g J w) v h.moment h.at)

-- what an answer is given from is cut from that log
pub given_cut : (g : Group) (J : List Record) (v : ℕ) (id : Id) (a : Answer) (P : List Entry) → World g J → IsGiven g J v id a P
    → P ≡ cut_after id (lead g v J)
given_cut g J v id a P w h =
    cut_is id P (lead g v J) h.from.answered.place h.from.answered.place_is h.from.ends (given_led g J v id a P w h)

pub accepted_led : (g : Group) (J : List Record) (v : ℕ) (P : List Entry) → World g J → IsAcceptedIn g v P J → IsPrefix P (lead g v J)
accepted_led g J v P w h = let d = decided_in g J w v P h in given_led g J v d.id d.answer P w d.given
