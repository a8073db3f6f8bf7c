-- Components as document 01 has them and as the definitions compute them: `leads` has just the lowest variable of each component,
-- `component` numbers the components in their order, and no other number of components and no other numbering does.
use mathlib.Core.Path.{◌≡◌, sym, ◌∙◌, ap, subst}
use mathlib.Core.Logic.{◌↔◌}
use Prim.Native.Nat.{ℕ, ◌<◌}
use native.Mathlib.Decide.{ℕ_discrete}
use native.Mathlib.Omega.{arith}
use lib.ListN.{length, get_or}
use Rattle.lists.specs.Members.{◌∈◌}
use Rattle.lists.specs.Table.{table, up_to}
use Rattle.lists.proofs.Members.{member_at}
use Rattle.lists.proofs.Rising.{same_members, Rising-at}
use Rattle.lists.proofs.Table.{in-table, Rising-table, length-table, table_at, in-up_to, Rising-up_to, length-up_to}
use Rattle.jobs.specs.Job.{Job}
use Rattle.jobs.specs.Component.{IsLead, Numbered, lowest, leads, component_count, component}
use Rattle.jobs.specs.Decide.{below?}
use Rattle.jobs.proofs.Components.{lowest-Joined, lowest_least, lowest-le, in-leads, Rising-leads, component_at, component_below, component_lead, component_iff}

module _ (j : Job) where
  abbrev n : ℕ
  n = length j.variables

  pub IsLead-iff : (l : ℕ) → IsLead j l ↔ (l ∈ leads j)
  IsLead-iff l = (
    λ h. (in-leads j l).1 (h.is_variable, omega (arith, h.least (lowest j l) (lowest-Joined j l), lowest-le j l)),
    λ m. let (b, e) = (in-leads j l).0 m in record { is_variable = b; least = λ i s. omega (arith, lowest_least j l i s, e) },
  )

  -- the component with a number, by its lowest variable
  abbrev lead : ℕ → ℕ
  lead k = get_or (leads j) k 0

  lead_at : (k : ℕ) → k < component_count j → IsLead j (lead k)
  lead_at k h = (IsLead-iff (lead k)).1 (member_at (leads j) k 0 h)

  pub component_numbers : Numbered j (component_count j) (component j)
  component_numbers = record {
    together = component_iff j;
    in_order = order;
    each = λ k. (λ h. (lead k, ((lead_at k h).is_variable, component_at j k h)), λ (i, h). subst (λ g. g < component_count j) h.1 (component_below j i h.0));
  }
    where
      -- a lowest variable stands at the place of its component's number
      own : (l : ℕ) → IsLead j l → lead (component j l) ≡ l
      own l h = component_lead j l h.is_variable ∙ ((in-leads j l).0 ((IsLead-iff l).0 h)).1

      order : (l k : ℕ) → IsLead j l → IsLead j k → l < k → component j l < component j k
      order l k p q h = go (below? (component j l) (component j k)) (ℕ_discrete (component j l) (component j k))
        where
          go : Dec (component j l < component j k) → Dec (component j l ≡ component j k) → component j l < component j k
          go (yes d) e = d
          go (no d) (yes e) = absurd (omega (arith, h, sym (own l p) ∙ ap lead e ∙ own k q))
          go (no d) (no e) =
              let r = Rising-at (Rising-leads j) (component j k) (component j l) 0 (omega (arith, d, e)) (component_below j l p.is_variable) in
              absurd (omega (arith, h, r, own l p, own k q))

  -- ---- any numbering
  module _ (g : ℕ) (group : ℕ → ℕ) (f : Numbered j g group) where
    -- a variable has the number of its lowest variable
    by_lead : (i : ℕ) → i < n → group i ≡ group (lead (component j i))
    by_lead i h =
        let b : lowest j i < n = omega (arith, lowest-le j i) in
        (f.together i (lowest j i) h b).1 (lowest-Joined j i) ∙ ap group (sym (component_lead j i h))

    -- so the numbers of the lowest variables, which rise, are all there are
    numbers_are : table (λ k. group (lead k)) (component_count j) ≡ up_to g
    numbers_are =
        same_members (λ x y h k. omega (arith, h, k))
        (Rising-table (λ k. group (lead k)) (component_count j)
        (λ a b h l. f.in_order (lead a) (lead b) (lead_at a (omega arith)) (lead_at b l) (Rising-at (Rising-leads j) a b 0 h l)))
        (Rising-up_to g)
        (λ k. (to k, from k))
      where
        to : (k : ℕ) → k ∈ table (λ k. group (lead k)) (component_count j) → k ∈ up_to g
        to k m = let (a, h, e) = (in-table (λ k. group (lead k)) (component_count j) k).0 m in (in-up_to g k).1 ((f.each k).1 (lead a, ((lead_at a h).is_variable, sym e)))

        from : (k : ℕ) → k ∈ up_to g → k ∈ table (λ k. group (lead k)) (component_count j)
        from k m =
            let (i, h) = (f.each k).0 ((in-up_to g k).0 m) in
            (in-table (λ k. group (lead k)) (component_count j) k).1 (component j i, component_below j i h.0, sym h.1 ∙ by_lead i h.0)

    pub groups_are : g ≡ component_count j
    groups_are = sym (length-up_to g) ∙ ap length (sym numbers_are) ∙ length-table (λ k. group (lead k)) (component_count j)

    pub group_is : (i : ℕ) → i < length j.variables → group i ≡ component j i
    group_is i h =
        let c = component j i in
        let b = component_below j i h in
        by_lead i h
        ∙ sym (table_at (λ k. group (lead k)) (component_count j) c 0 b)
        ∙ ap (λ ks. get_or ks c 0) numbers_are
        ∙ table_at (λ k. k) g c 0 (omega (arith, b, groups_are))

  -- what agrees with the definitions numbers the components too
  pub Numbered-by : (g : ℕ) (group : ℕ → ℕ) → g ≡ component_count j → ((i : ℕ) → i < length j.variables → group i ≡ component j i) → Numbered j g group
  Numbered-by g group e f = record {
    together = λ i k h l. (λ q. (component_iff j i k h l).0 (sym (f i h) ∙ q ∙ f k l), λ s. f i h ∙ (component_iff j i k h l).1 s ∙ sym (f k l));
    in_order = λ l k p q h. omega (arith, f l p.is_variable, f k q.is_variable, component_numbers.in_order l k p q h);
    each = λ k. (
      λ h. let (i, m) = (component_numbers.each k).0 (omega (arith, h, e)) in (i, (m.0, f i m.0 ∙ m.1)),
      λ (i, m). omega (arith, e, f i m.0, m.1, component_below j i m.0),
    );
  }
