-- Where no tie-break has anything to decide: a component with a slope other than 0, or with one solution, has one solution of greatest
-- objective. So by any order among equals it is the best, and its place the chosen k.
use mathlib.Core.Path.{◌≡◌, sym, ◌∙◌, ap}
use mathlib.Core.Logic.{◌↔◌, ◌⊎◌, inl, inr, ◌≢◌}
use Prim.Native.Nat.{ℕ, ◌≤◌, ◌<◌}
use Rattle.ints.proofs.{ℤ, pos, List, [], ◌∷◌, arith, lin, facts}
use Rattle.ints.proofs.Products.{cancel}
use Rattle.lists.specs.Members.{◌∈◌}
use Rattle.lists.specs.Keep.{place}
use Rattle.lists.specs.Table.{table}
use Rattle.lists.proofs.Best.{best_of_member}
use Rattle.jobs.specs.Job.{Job}
use Rattle.jobs.specs.Solution.{solutions, objective, best}
use Rattle.jobs.specs.Family.{fits, base, agree, chosen, slope}
use Rattle.jobs.proofs.Solutions.{in-solutions}
use Rattle.jobs.proofs.AnyTieBreak.{best_with, any_order}
use Rattle.families.specs.Family.{member, choice}
use Rattle.families.proofs.BestOfComponent.{objective-member, member-IsSolution, IsSolution-member, choice_below, best-member}

module _ (c : Job) where
  -- two members of equal objective have one place
  same_place : (slope c ≢ pos 0) ⊎ (fits c ≡ 1) → (i k : ℕ) → i < fits c → k < fits c → objective c (member c i) ≡ objective c (member c k) → i ≡ k
  same_place (inr one) i k h l q = omega arith
  same_place (inl s) i k h l q =
      let e = sym (objective-member c i) ∙ q ∙ objective-member c k in
      let p : pos i ≡ pos k = cancel (slope c) (pos i) (pos k) s (lin (objective c (base c) ∷ slope c ∷ pos i ∷ pos k ∷ []) e (search facts depth 20) (omega arith)) in
      lin (pos i ∷ pos k ∷ []) p (search facts depth 20) (omega arith)

  module _ (e : solutions c ≡ table (member c) (fits c)) (some : 1 ≤ fits c) (order : List (List ℤ) → List (List ℤ))
      (all : (xs : List (List ℤ)) (x : List ℤ) → x ∈ order xs ↔ x ∈ xs) where
    -- the best by that order is a member, of the objective that the best has
    pub one_best : (slope c ≢ pos 0) ⊎ (fits c ≡ 1) → best_with order c ≡ best c
    one_best d =
        let first = (in-solutions c (member c 0)).1 (member-IsSolution c e 0 (omega arith)) in
        let inside = (all (solutions c) (best_with order c)).0 (best_of_member (objective c) [] ((all (solutions c) (member c 0)).1 first)) in
        let (k, h, q) = IsSolution-member c e (best_with order c) ((in-solutions c (best_with order c)).0 inside) in
        let b = best-member c e some in
        q ∙ ap (member c) (same_place d k (choice (slope c) (fits c)) h (choice_below (slope c) (fits c) some)
        (ap (objective c) (sym q) ∙ (any_order order all c).objective ∙ ap (objective c) b)) ∙ sym b

    -- and so the chosen k is that of today's order
    pub one_choice : (slope c ≢ pos 0) ⊎ (fits c ≡ 1) → place (agree (best_with order c)) (solutions c) ≡ chosen c
    unfolding chosen
    one_choice d = ap (λ x. place (agree x) (solutions c)) (one_best d)
