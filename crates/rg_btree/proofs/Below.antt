-- The child of a node below which an entry is looked for, and what the node has once that child has
-- changed.
use Rattle.std.proofs.Common.{◌≡◌, ◌+◌, ◌-◌, ◌<◌, ◌≤◌, zero, suc, ℕ, List, [], ◌∷◌, ◌++◌, Option}
use Rattle.std.proofs.Common.{Some, None, length, take, drop, set, get_or, append_assoc, sym, ◌∙◌}
use Rattle.std.proofs.Common.{ap, subst, arith}
use Rattle.std.specs.Prelude.{IsSome, IsNone, MatchOption}
use Rattle.std.specs.Option.{option_to_list}
use Rattle.std.proofs.lemmas.List.{set_split, length-map, take-append-drop, append-nil}
use Rattle.std.proofs.lemmas.List.{length-take-le, length-drop}
use Rattle.std.proofs.Math.Seq.{split_at}
use Rattle.rg_base.specs.declared.place.Place.{Place}
use Rattle.rg_base.proofs.Each.{Each-map, Each-at, Each-take, Each-drop}
use Rattle.rg_model.specs.Layout.{put_entry}
use Rattle.rg_index.specs.Entries.{IsRising, has_entry, without_entry}
use Rattle.rg_index.proofs.Lists.{rising_left, rising_right}
use Rattle.rg_bulk.specs.Branch.{Branch, branch_of, first_of, joined, total}
use Rattle.std.specs.List.{AllByRecursion}
use Rattle.rg_bulk.specs.Shape.{IsKid, IsNode, least_fill}
use Rattle.rg_bulk.proofs.Filled.{parent_may_be_kid}
use Rattle.rg_bulk.proofs.Levels.{joined-append, total-append}
use Rattle.rg_btree.specs.Child.{IsChild}
use Rattle.rg_btree.specs.Short.{IsShort}
use Rattle.rg_btree.proofs.Chosen.{IsBetween, chosen, has_between, put_between, without_between}
use Rattle.rg_btree.proofs.Kids.{IsReplaced, inner_of, branch_is, drop_set, take_more_set}
use Rattle.rg_btree.proofs.Kids.{kids_have_entries, firsts_rise, Each-set}
use Rattle.rg_btree.proofs.Kids.{each_after, total_after, length_after}
use Rattle.rg_btree.proofs.Kids.{joined_after}

-- what is known of the chosen child d
pub record IsBelow (e : ℕ × Place) (h : ℕ) (kids : List Branch) (i : ℕ) (d shown : Branch)
    : Type 0 where
  pub low : i < length kids
  pub each : AllByRecursion (IsKid (h - 1)) kids
  pub kid : IsKid (h - 1) d
  pub rising : IsRising d.entries
  pub has : has_entry shown.entries e ≡ has_entry d.entries e
  pub cut : kids ≡ take i kids ++ ((d ∷ []) ++ drop (suc i) kids)
  pub all : joined kids ≡ shown.entries
  pub between : IsBetween e (take i kids) (drop (suc i) kids)
  pub height : shown.height ≡ h
  pub fill : shown.fill ≡ length kids
  pub nodes : shown.nodes ≡ total (λ kid. kid.nodes) kids + 1
  pub inners : shown.inners ≡ total (λ kid. kid.inners) kids + 1

pub keys_rise : (h : ℕ) (keys : List (ℕ × Place)) (kids : List Branch) (kr dr : ℕ) (shown : Branch)
    (seen : List (ℕ × Place)) → IsNode h keys kids kr dr → (h ≡ 0 → ⊥)
    → branch_of h keys kids ≡ shown → IsRising shown.entries → seen ≡ keys → IsRising seen
keys_rise h keys kids kr dr shown seen node high view rising same =
    let inner = inner_of h keys kids kr dr high node in
    let all : joined kids ≡ shown.entries =
    ap (λ b. b.entries) (sym (branch_is h keys kids high) ∙ view) in
    subst IsRising (sym (same ∙ inner.keys_are))
    (firsts_rise kids (kids_have_entries (h - 1) kids inner.each) (subst IsRising (sym all) rising))

pub has_keys : (h : ℕ) (keys : List (ℕ × Place)) (kids : List Branch) (kr dr : ℕ)
    → IsNode h keys kids kr dr → (h ≡ 0 → ⊥) → (length keys ≡ length kids) × (0 < length keys)
has_keys h keys kids kr dr node high =
    let inner = inner_of h keys kids kr dr high node in
    let same = ap length inner.keys_are ∙ length-map kids (λ kid. first_of kid.entries) in
    let fewest = inner.fewest in
    (same, omega arith)

pub below : (e : ℕ × Place) (h : ℕ) (keys : List (ℕ × Place)) (kids : List Branch) (kr dr : ℕ)
    (shown : Branch) (seen : List (ℕ × Place)) (i : ℕ) (d : Branch) → IsNode h keys kids kr dr
    → (h ≡ 0 → ⊥) → branch_of h keys kids ≡ shown → IsRising shown.entries → seen ≡ keys
    → IsChild e seen i → d ≡ get_or kids i d → IsBelow e h kids i d shown
below e h keys kids kr dr shown seen i d node high view rising same at is =
    let inner = inner_of h keys kids kr dr high node in
    let whole : branch_of (suc (h - 1)) [] kids ≡ shown = sym (branch_is h keys kids high) ∙ view in
    let all : joined kids ≡ shown.entries = ap (λ b. b.entries) whole in
    let rises : IsRising (joined kids) = subst IsRising (sym all) rising in
    let here = subst (λ ks. IsChild e ks i) (same ∙ inner.keys_are) at in
    let low : i < length kids =
    subst (λ n. i < n) (length-map kids (λ kid. first_of kid.entries)) here.within in
    let cut : kids ≡ take i kids ++ ((d ∷ []) ++ drop (suc i) kids) =
    split_at kids i d low ∙ ap (λ k. take i kids ++ k ∷ drop (suc i) kids) (sym is) in
    let parts : IsRising (joined (take i kids) ++ (d.entries ++ joined (drop (suc i) kids))) =
    subst IsRising (joined-append (take i kids) (d ∷ drop (suc i) kids))
    (subst (λ ks. IsRising (joined ks)) cut rises) in
    let between = chosen e kids i d (kids_have_entries (h - 1) kids inner.each) rises low here in
    record {
      low = low;
      each = inner.each;
      kid = subst (IsKid (h - 1)) (sym is) (Each-at (IsKid (h - 1)) kids i d low inner.each);
      rising = rising_left d.entries (joined (drop (suc i) kids))
          (rising_right (joined (take i kids)) (d.entries ++ joined (drop (suc i) kids)) parts);
      has = ap (λ es. has_entry es e)
          (sym all ∙ ap joined cut ∙ joined-append (take i kids) (d ∷ drop (suc i) kids))
          ∙ has_between e (take i kids) (drop (suc i) kids) between d.entries;
      cut = cut;
      all = all;
      between = between;
      height = ap (λ b. b.height) (sym whole) ∙ sym (above h high);
      fill = ap (λ b. b.fill) (sym whole);
      nodes = ap (λ b. b.nodes) (sym whole);
      inners = ap (λ b. b.inners) (sym whole);
    }
  where
    above : (k : ℕ) → (k ≡ 0 → ⊥) → k ≡ suc (k - 1)
    above k some = omega arith

-- the child has changed to `new`, with others behind it
pub record IsRenewed (e : ℕ × Place) (h : ℕ) (kids : List Branch) (i : ℕ) (d shown new : Branch)
    (others after : List Branch) : Type 0 where
  pub each : AllByRecursion (IsKid (h - 1)) after
  pub all : joined after
      ≡ joined (take i kids) ++ (joined (new ∷ others) ++ joined (drop (suc i) kids))
  pub count : length after ≡ length kids + length others
  pub nodes : total (λ kid. kid.nodes) after + d.nodes
      ≡ total (λ kid. kid.nodes) kids + total (λ kid. kid.nodes) (new ∷ others)
  pub inners : total (λ kid. kid.inners) after + d.inners
      ≡ total (λ kid. kid.inners) kids + total (λ kid. kid.inners) (new ∷ others)

after_is : (kids : List Branch) (i : ℕ) (new : Branch) (others after : List Branch)
    → i < length kids
    → after ≡ take (suc i) (set kids i new) ++ (others ++ drop (suc i) (set kids i new))
    → after ≡ take i kids ++ ((new ∷ others) ++ drop (suc i) kids)
after_is kids i new others after low is =
    is ∙ (λ j. take_more_set kids i new low j ++ (others ++ drop_set kids i new j))
    ∙ append_assoc (take i kids) (new ∷ []) (others ++ drop (suc i) kids)

pub renewed : (e : ℕ × Place) (h : ℕ) (kids : List Branch) (i : ℕ) (d shown new : Branch)
    (others after : List Branch)
    → IsBelow e h kids i d shown → AllByRecursion (IsKid (h - 1)) (new ∷ others)
    → after ≡ take (suc i) (set kids i new) ++ (others ++ drop (suc i) (set kids i new))
    → IsRenewed e h kids i d shown new others after
renewed e h kids i d shown new others after at each is =
    let swap : IsReplaced (take i kids) (d ∷ []) (new ∷ others) (drop (suc i) kids) kids after =
    record { was = at.cut; is = after_is kids i new others after at.low is } in
    let lengths =
    length_after (take i kids) (d ∷ []) (new ∷ others) (drop (suc i) kids) kids after swap in
    let nodes = total_after (take i kids) (d ∷ []) (new ∷ others) (drop (suc i) kids) kids after
    swap (λ kid. kid.nodes) in
    let inners = total_after (take i kids) (d ∷ []) (new ∷ others) (drop (suc i) kids) kids after
    swap (λ kid. kid.inners) in
    record {
      each = each_after (take i kids) (d ∷ []) (new ∷ others) (drop (suc i) kids) kids after swap
          (IsKid (h - 1)) at.each each;
      all = joined_after (take i kids) (d ∷ []) (new ∷ others) (drop (suc i) kids) kids after swap;
      count = omega arith;
      nodes = omega arith;
      inners = omega arith;
    }

-- ---- after an addition

pub all_added : (e : ℕ × Place) (h : ℕ) (kids : List Branch) (i : ℕ) (d shown new : Branch)
    (others after : List Branch)
    → IsBelow e h kids i d shown → IsRenewed e h kids i d shown new others after
    → joined (new ∷ others) ≡ put_entry e d.entries → joined after ≡ put_entry e shown.entries
all_added e h kids i d shown new others after at now put =
    now.all
    ∙ ap (λ es. joined (take i kids) ++ (es ++ joined (drop (suc i) kids))) put
    ∙ sym (put_between e (take i kids) (drop (suc i) kids) at.between d.entries)
    ∙ ap (put_entry e)
    (sym (joined-append (take i kids) (d ∷ drop (suc i) kids)) ∙ ap joined (sym at.cut) ∙ at.all)

-- what a node is split into
pub record IsSplit (b : ℕ) (before after : List Branch) (right : Option Branch) (node : Branch)
    : Type 0 where
  pub each : AllByRecursion (IsKid b) after
  pub some : 1 ≤ length after
  pub entries : joined (node ∷ option_to_list right) ≡ joined before
  pub height : node.height ≡ suc b
  pub fill : IsNone right → node.fill ≡ length before
  pub kept : 112 ≤ length before → AllByRecursion (IsKid (suc b)) (node ∷ option_to_list right)
  pub split : IsSome right → AllByRecursion (IsKid (suc b)) (node ∷ option_to_list right)
  pub nodes : total (λ kid. kid.nodes) (node ∷ option_to_list right)
      ≡ total (λ kid. kid.nodes) before + 1 + length (option_to_list right)
  pub inners : total (λ kid. kid.inners) (node ∷ option_to_list right)
      ≡ total (λ kid. kid.inners) before + 1 + length (option_to_list right)

pub split_is : (b : ℕ) (before after : List Branch) (right : Option Branch) (node : Branch)
    → AllByRecursion (IsKid b) before → 1 ≤ length before → length before ≤ 226
    → node ≡ branch_of (suc b) [] after
    → MatchOption right (after ≡ before)
    (λ other. (other ≡ branch_of (suc b) [] (drop 113 before)) × (after ≡ take 113 before)
    × (225 < length before))
    → IsSplit b before after right node
split_is b before after None node each some most is same =
    let whole : node ≡ branch_of (suc b) [] before = is ∙ ap (branch_of (suc b) []) same in
    let nodes = ap (λ n. n.nodes) whole in
    let inners = ap (λ n. n.inners) whole in
    record {
      each = subst (AllByRecursion (IsKid b)) (sym same) each;
      some = omega (arith, ap length same);
      entries = append-nil node.entries ∙ ap (λ n. n.entries) whole;
      height = ap (λ n. n.height) whole;
      fill = λ none. ap (λ n. n.fill) whole;
      kept = λ full. (subst (IsKid (suc b)) (sym whole) (parent_may_be_kid b before each full), tt);
      split = λ there. absurd (cc (there));
      nodes = omega arith;
      inners = omega arith;
    }
split_is b before after (Some other) node each some most is halves =
    let left : node ≡ branch_of (suc b) [] (take 113 before) =
    is ∙ ap (branch_of (suc b) []) halves.1 in
    let nodes = ap (λ n. n.nodes) left in
    let inners = ap (λ n. n.inners) left in
    let other_nodes = ap (λ n. n.nodes) halves.0 in
    let other_inners = ap (λ n. n.inners) halves.0 in
    let long = halves.2 in
    let first = length-take-le 113 before (omega arith) in
    let second = length-drop 113 before in
    let both : AllByRecursion (IsKid (suc b)) (node ∷ other ∷ []) = (
      subst (IsKid (suc b)) (sym left)
          (parent_may_be_kid b (take 113 before) (Each-take (IsKid b) 113 before each)
          (omega arith)),
      (
        subst (IsKid (suc b)) (sym halves.0)
            (parent_may_be_kid b (drop 113 before) (Each-drop (IsKid b) 113 before each)
            (omega arith)),
        tt,
      ),
    ) in
    let all_nodes = ap (total (λ kid. kid.nodes)) (sym (take-append-drop 113 before))
    ∙ total-append (λ kid. kid.nodes) (take 113 before) (drop 113 before) in
    let all_inners = ap (total (λ kid. kid.inners)) (sym (take-append-drop 113 before))
    ∙ total-append (λ kid. kid.inners) (take 113 before) (drop 113 before) in
    record {
      each = subst (AllByRecursion (IsKid b)) (sym halves.1) (Each-take (IsKid b) 113 before each);
      some = omega (arith, ap length halves.1);
      entries = (λ i. (left i).entries ++ ((halves.0 i).entries ++ []))
          ∙ ap (λ es. joined (take 113 before) ++ es) (append-nil (joined (drop 113 before)))
          ∙ sym (joined-append (take 113 before) (drop 113 before))
          ∙ ap joined (take-append-drop 113 before);
      height = ap (λ n. n.height) left;
      fill = λ none. absurd (cc (none));
      kept = λ full. both;
      split = λ there. both;
      nodes = omega arith;
      inners = omega arith;
    }

-- a node that may be a child is one still after its children grew
pub still_full : (h : ℕ) (shown : Branch) (kids before : List Branch) → (h ≡ 0 → ⊥)
    → shown.height ≡ h → shown.fill ≡ length kids → length kids ≤ length before
    → IsKid shown.height shown → 112 ≤ length before
still_full h shown kids before high level fill more is =
    let up : shown.height ≡ suc (h - 1) = omega arith in
    let full = (subst (λ k. IsKid k shown) up is).fill in
    omega arith

pub at_level : (h : ℕ) (shown : Branch) (nodes : List Branch) → (h ≡ 0 → ⊥) → shown.height ≡ h
    → AllByRecursion (IsKid (suc (h - 1))) nodes → AllByRecursion (IsKid shown.height) nodes
at_level h shown nodes high level each =
    let up : suc (h - 1) ≡ shown.height = omega arith in
    subst (λ k. AllByRecursion (IsKid k) nodes) up each

-- ---- after a removal

pub swapped : (e : ℕ × Place) (h : ℕ) (kids : List Branch) (i : ℕ) (d shown new : Branch)
    → IsBelow e h kids i d shown
    → IsReplaced (take i kids) (d ∷ []) (new ∷ []) (drop (suc i) kids) kids (set kids i new)
swapped e h kids i d shown new at = record { was = at.cut; is = set_split kids i new at.low }

-- what is left of the node's entries, and of its nodes
pub record IsReduced (e : ℕ × Place) (kids : List Branch) (d shown new : Branch)
    (after : List Branch) : Type 0 where
  pub all : joined after ≡ without_entry e shown.entries
  pub nodes : total (λ kid. kid.nodes) after + d.nodes ≡ total (λ kid. kid.nodes) kids + new.nodes
  pub inners : total (λ kid. kid.inners) after + d.inners
      ≡ total (λ kid. kid.inners) kids + new.inners

pub reduced : (e : ℕ × Place) (h : ℕ) (kids : List Branch) (i : ℕ) (d shown new : Branch)
    → IsBelow e h kids i d shown → new.entries ≡ without_entry e d.entries
    → IsReduced e kids d shown new (set kids i new)
reduced e h kids i d shown new at left =
    let swap = swapped e h kids i d shown new at in
    let nodes = total_after (take i kids) (d ∷ []) (new ∷ []) (drop (suc i) kids) kids
    (set kids i new) swap (λ kid. kid.nodes) in
    let inners = total_after (take i kids) (d ∷ []) (new ∷ []) (drop (suc i) kids) kids
    (set kids i new) swap (λ kid. kid.inners) in
    record {
      all =
          joined_after (take i kids) (d ∷ []) (new ∷ []) (drop (suc i) kids) kids (set kids i new)
          swap
          ∙ ap (λ es. joined (take i kids) ++ (es ++ joined (drop (suc i) kids)))
          (append-nil new.entries ∙ left)
          ∙ sym (without_between e (take i kids) (drop (suc i) kids) at.between d.entries)
          ∙ ap (without_entry e)
          (sym (joined-append (take i kids) (d ∷ drop (suc i) kids)) ∙ ap joined (sym at.cut)
          ∙ at.all);
      nodes = omega arith;
      inners = omega arith;
    }

-- a child's nodes are among those of all children
pub part_of :
    (number : Branch → ℕ) (e : ℕ × Place) (h : ℕ) (kids : List Branch) (i : ℕ) (d shown : Branch)
    → IsBelow e h kids i d shown → number d ≤ total number kids
part_of number e h kids i d shown at =
    let all =
    ap (total number) at.cut ∙ total-append number (take i kids) ((d ∷ []) ++ drop (suc i) kids) in
    omega arith

pub least_some : (h : ℕ) → 112 ≤ least_fill h
least_some zero = omega arith
least_some (suc h) = omega arith

pub each_short : (h : ℕ) (kids : List Branch) (i : ℕ) (new : Branch) → AllByRecursion (IsKid h) kids
    → new.height ≡ h → least_fill h ≤ new.fill + 1 → AllByRecursion (IsShort h) (set kids i new)
each_short h kids i new each level fill =
    Each-set (IsShort h) kids i new (record { level = level; fill = fill })
    (Each-map (IsKid h) (IsShort h)
    (λ kid is. let full = is.fill in record { level = is.level; fill = omega arith }) kids each)
