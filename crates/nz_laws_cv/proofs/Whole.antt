-- Knowledge and views, from the ground.
use Rattle.std.proofs.Common.{◌≡◌, ℕ, ◌+◌, List, ◌∷◌, length, refl, arith}
use Rattle.nz_base.specs.Moments.{At}
use Rattle.nz_laws_cv.specs.Notions.{Notions, IsIn}
use Rattle.nz_laws_cv.specs.Ground.{Ground}
use Rattle.nz_laws_cv.specs.Views.{HasViews}
use Rattle.nz_laws_cv.proofs.Completing.{comes_from}
use Rattle.nz_laws_cv.proofs.Knowing.{knows_to}
use Rattle.nz_laws_cv.proofs.Members.{members_to, was_normal}
use Rattle.nz_laws_cv.proofs.Leading.{LeadsOnce, one_leader, leader_of_zero, begins_once, once}

module _ {R : Type 0} (N : Notions R) (J : List R) where
  leader_is_one : Ground N J → (v : ℕ) (B K : List R) → N.Begins v B → At J K → IsIn N (N.leader v) v K → N.inc (N.leader v) K ≡ N.inc (N.leader v) B
  leader_is_one h v B K b at is = let begin = h.begin v B b in one_leader N J h v K B at begin.at is begin.leads

  leads_once : Ground N J → LeadsOnce N J
  leads_once h = record {
    follows = λ x C c. (h.completion x C c).follows;
    at = λ v B b. (h.begin v B b).at;
    leads = λ v B b. (h.begin v B b).leads;
    turns = λ v r K b. (h.begin v (r ∷ K) b).turns r K refl;
    one = leader_is_one h;
  }

  -- the laws on knowledge and views hold on the ground
  pub views : Ground N J → HasViews N J
  views h = record {
    rise = λ x S K s k up_s up_k lower. (knows_to N J h (length S + length K)).rise x S K s k up_s up_k lower (omega arith);
    know = λ m x C T K c u at up lower. (knows_to N J h (length C + length K)).know m x C T K c u at up lower (omega arith);
    member = λ x w C B Q c b r lower. members_to N J h (length C) x w C B Q c b r lower (omega arith);
    was_normal = was_normal N J h;
    one_leader = one_leader N J h;
    leader_of_zero = leader_of_zero N J h;
    leader_is_one = leader_is_one h;
    begins_once = begins_once N J h.modes (leads_once h);
    once = once N J h.modes (leads_once h);
    completed = comes_from N J h;
    completion = h.completion;
  }
