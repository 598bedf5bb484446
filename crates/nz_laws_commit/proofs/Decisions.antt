-- Where a proxy has decided a request, the decision leads to the source of the reply that gives its answer.
use Rattle.std.proofs.Common.{◌≡◌, ℕ, false, cond, List, [], ◌∷◌, Option, Some, None, refl, sym, ap, ◌∙◌, inl, inr}
use Rattle.std.proofs.lemmas.Bool.{or_left, or_right}
use Rattle.std.specs.List.{list_any}
use Rattle.std.specs.Option.{option_map, option_and_then}
use Rattle.std.proofs.lemmas.Option.{none-some}
use Rattle.nz_base.specs.declared.actor.Actor.TheVariants.{Proxy}
use Rattle.nz_base.specs.declared.key.Id.{Id}
use Rattle.nz_store.specs.declared.command.Answer.{Answer}
use Rattle.nz_msg.specs.declared.message.Path.{Path}
use Rattle.nz_machine.specs.declared.event.Record.{Record}
use Rattle.nz_machine.specs.declared.reply.Reply.{Reply}
use Rattle.nz_machine.specs.rules.State.{Standing, Open, Decided, Group}
use Rattle.nz_machine.specs.rules.Quorums.{Chosen, decision, reply_eq, answer_in, with_note, view_of}
use Rattle.nz_machine.specs.runs.World.{state_after, Has, World}
use Rattle.nz_machine.specs.runs.Events.{read_in}
use Rattle.nz_machine.specs.runs.History.{older_or, standing_after, is_decided, decision_moment, replies_of, reply_read, with_reply_noted, replies_at_last}
use Rattle.nz_machine.specs.runs.History.{deciding_reply, ReplySource, source_of_reply, source_at_decision, prefix_at_source}
use Rattle.nz_base.specs.Moments.{At}
use Rattle.nz_base.proofs.Moments.{at_self}
use Rattle.nz_machine.proofs.runs.Sources.{reply_eq_self}
use Rattle.nz_machine.proofs.facts.Choices.{decision_is}
use Rattle.nz_laws_commit.proofs.Answering.{IsGiven}
use Rattle.nz_laws_commit.proofs.Standings.{StandingStep, Stays, Forgets, Opens, Notes, Decides}
use Rattle.nz_laws_commit.proofs.NotedWereSent.{IsBacked}
use Rattle.nz_laws_commit.proofs.ReplySources.{IsNoted, moment_of, standing_steps, has_moment, noted_brought, noted_source}

has_noted : (replies : List Reply) (r : Reply) → Has replies r → IsNoted r replies
has_noted [] r h = absurd h
has_noted (x ∷ replies) r (inl e) = or_left (reply_eq r x) (list_any (reply_eq r) replies) (ap (reply_eq r) e ∙ reply_eq_self r)
has_noted (x ∷ replies) r (inr h) = or_right (reply_eq r x) (list_any (reply_eq r) replies) (has_noted replies r h)

-- the run up to the decision, the reply that it names, and the source of that
pub record HasDecided (g : Group) (J : List Record) (q : ℕ) (id : Id) (a : Answer) : Type 0 where
  pub moment : List Record
  pub is : decision_moment g q id J ≡ Some moment
  pub at : At J moment
  pub reply : Reply
  pub names : deciding_reply g q id moment ≡ Some reply
  pub source : ReplySource
  pub leads : source_at_decision g q id moment ≡ Some source
  pub backed : IsBacked g moment id reply source
  pub given : IsGiven g moment (view_of reply) id a (prefix_at_source g id source)

undecided : (g : Group) (J : List Record) (q : ℕ) (id : Id) → is_decided (standing_after g q id J) ≡ false → decision_moment g q id J ≡ None
undecided g [] q id h = refl
undecided g (r ∷ J) q id h = ap (λ b. cond b (older_or (decision_moment g q id J) (r ∷ J)) None) h

decided_now : (g : Group) (r : Record) (J : List Record) (q : ℕ) (id : Id) (a : Answer) (p : Path)
    → standing_after g q id (r ∷ J) ≡ Some (Decided a p) → decision_moment g q id (r ∷ J) ≡ older_or (decision_moment g q id J) (r ∷ J)
decided_now g r J q id a p now = ap (λ (t : Option Standing). cond (is_decided t) (older_or (decision_moment g q id J) (r ∷ J)) None) now

decided_later : (g : Group) (r : Record) (J : List Record) (q : ℕ) (id : Id) (a : Answer) (p : Path)
    → standing_after g q id (r ∷ J) ≡ Some (Decided a p) → HasDecided g J q id a → HasDecided g (r ∷ J) q id a
decided_later g r J q id a p now h = record {
  moment = h.moment;
  is = decided_now g r J q id a p now ∙ ap (λ (o : Option (List Record)). older_or o (r ∷ J)) h.is;
  at = inr h.at;
  reply = h.reply;
  names = h.names;
  source = h.source;
  leads = h.leads;
  backed = h.backed;
  given = h.given;
}

decides : (g : Group) (r : Record) (J : List Record) (q : ℕ) (id : Id) (a : Answer) (p : Path) (replies : List Reply) (n : Reply) (chosen : Chosen)
    → World g (r ∷ J) → r.actor ≡ Proxy q → standing_after g q id J ≡ Some (Open replies) → reply_read id (read_in g (Proxy q) r.event) ≡ Some n
    → decision g.f (with_note replies n) ≡ Some chosen → answer_in chosen.reply ≡ Some a → standing_after g q id (r ∷ J) ≡ Some (Decided a p)
    → HasDecided g (r ∷ J) q id a
decides g r J q id a p replies n chosen w by before heard d answer now =
    let noted = has_noted (with_note replies n) chosen.reply (decision_is g.f (with_note replies n) chosen d).among in
    let m = moment_of g q id r J replies n chosen.reply by before heard (has_moment g J q id chosen.reply) noted in
    let b = noted_source g (r ∷ J) q id chosen.reply a w m answer in
    let stood : replies_at_last g q id (r ∷ J) ≡ with_note replies n =
    ap (λ (t : Option Standing). with_reply_noted (replies_of t) (reply_read id (read_in g (Proxy q) r.event))) before ∙ ap (with_reply_noted replies) heard in
    let deciding : deciding_reply g q id (r ∷ J) ≡ Some chosen.reply = ap (λ (ys : List Reply). option_map (λ (c : Chosen). c.reply) (decision g.f ys)) stood
    ∙ ap (option_map (λ (c : Chosen). c.reply)) d in
    record {
      moment = r ∷ J;
      is = decided_now g r J q id a p now ∙ ap (λ (o : Option (List Record)). older_or o (r ∷ J)) (undecided g J q id (ap is_decided before));
      at = at_self (r ∷ J);
      reply = chosen.reply;
      names = deciding;
      source = b.source;
      leads = ap (option_and_then (source_of_reply g q id (r ∷ J))) deciding ∙ b.is;
      backed = record {
        replies = with_note replies n;
        quorum = (decision_is g.f (with_note replies n) chosen d).quorum;
        said = λ x among.
            let moment = moment_of g q id r J replies n x by before heard (has_moment g J q id x) (has_noted (with_note replies n) x among) in
            let brought = noted_brought g (r ∷ J) q id x w moment in
            record { from = brought.parcel.from; moment = brought.run; said = brought.said };
        own = b.said;
      };
      given = b.given;
    }

decided_same : (a c : Answer) (p q : Path) → Some (Decided a p) ≡ Some (Decided c q) → a ≡ c
decided_same a c p q e = cc

open_decided : (replies : List Reply) (a : Answer) (p : Path) (o : Option Standing) → o ≡ Some (Open replies) → o ≡ Some (Decided a p) → ⊥
open_decided replies a p o h k = let e : Some (Open replies) ≡ Some (Decided a p) = sym h ∙ k in absurd cc

after_moves : (g : Group) (r : Record) (J : List Record) (q : ℕ) (id : Id) (a : Answer) (p : Path) → World g (r ∷ J) → r.actor ≡ Proxy q
    → StandingStep g.f (reply_read id (read_in g (Proxy q) r.event)) (standing_after g q id J) (standing_after g q id (r ∷ J))
    → (standing_after g q id J ≡ Some (Decided a p) → HasDecided g J q id a) → standing_after g q id (r ∷ J) ≡ Some (Decided a p) → HasDecided g (r ∷ J) q id a
after_moves g r J q id a p w by (Stays e) old now = decided_later g r J q id a p now (old (sym e ∙ now))
after_moves g r J q id a p w by (Forgets after) old now = absurd (none-some (Decided a p) (sym after ∙ now))
after_moves g r J q id a p w by (Opens before after) old now = absurd (open_decided [] a p (standing_after g q id (r ∷ J)) after now)
after_moves g r J q id a p w by (Notes replies n before heard after) old now = absurd
    (open_decided (with_note replies n) a p (standing_after g q id (r ∷ J)) after now)
after_moves g r J q id a p w by (Decides replies n chosen c before heard d is after) old now =
    decides g r J q id a p replies n chosen w by before heard d (is ∙ ap Some (decided_same c a chosen.path p (sym after ∙ now))) now

pub has_decided : (g : Group) (J : List Record) → World g J → (q : ℕ) (id : Id) (a : Answer) (p : Path) → standing_after g q id J ≡ Some (Decided a p)
    → HasDecided g J q id a
unfolding state_after
has_decided g [] w q id a p e = absurd (none-some (Decided a p) e)
has_decided g (r ∷ J) w q id a p e = elim (standing_steps g r J q id) [
  | inl m ↦ after_moves g r J q id a p w m.0 m.1 (has_decided g J w.1 q id a p) e
  | inr s ↦ decided_later g r J q id a p e (has_decided g J w.1 q id a p (sym s ∙ e))
]
