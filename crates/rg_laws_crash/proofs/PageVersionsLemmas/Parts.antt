-- What one record makes of a page: its number stays, and its position is the record's if a part is
-- on it.
use Rattle.std.proofs.Common.{◌≡◌, ◌≤◌, ◌<◌, ◌==◌, ◌||◌, ◌⊎◌, inl, inr, ℕ, nat_lt, Bool, true}
use Rattle.std.proofs.Common.{false, if◌then◌else◌, List, [], ◌∷◌, Option, refl, sym, ◌∙◌, ap}
use Rattle.std.proofs.Common.{subst, arith}
use Rattle.std.proofs.lemmas.Bool.{ltb-true, ltb-false}
use Rattle.std.specs.List.{list_any}
use Rattle.rg_base.specs.declared.part.Part.{Part}
use Rattle.rg_base.specs.declared.row.Row.{Row}
use Rattle.rg_base.proofs.Small.{nat_itself}
use Rattle.rg_page.specs.Changed.{changed}
use Rattle.rg_page.specs.Content.{Content}
use Rattle.rg_record.specs.Applied.{after_of, parts_of}
use Rattle.rg_record.specs.declared.record.Record.{Record}
use Rattle.rg_space.specs.Redo.{AllFit, RedoFits, redone, with_part, with_parts}
use Rattle.rg_laws_crash.specs.PageVersions.Versions.{names}

clash : true ≡ false → ⊥
clash f = cc (f)

differ : false ≡ true → ⊥
differ f = cc (f)

module _ (owner : ℕ) (after : Option Row) (position : ℕ) where
  part_number : (page : Content) (x : Part)
      → (with_part owner after position page x).number ≡ page.number
  part_number page x = elim (x.page == page.number) as
      (λ t. (if t then changed page x owner after position else page).number ≡ page.number) [
        | true ↦ refl
        | false ↦ refl
      ]

  pub parts_number : (parts : List Part) (page : Content)
      → (with_parts owner after position page parts).number ≡ page.number
  parts_number [] page = refl
  parts_number (x ∷ parts) page =
      parts_number parts (with_part owner after position page x) ∙ part_number page x

  part_copy : (page : Content) (x : Part) → (with_part owner after position page x).copy ≡ page.copy
  part_copy page x = elim (x.page == page.number) as
      (λ t. (if t then changed page x owner after position else page).copy ≡ page.copy) [
        | true ↦ refl
        | false ↦ refl
      ]

  pub parts_copy : (parts : List Part) (page : Content)
      → (with_parts owner after position page parts).copy ≡ page.copy
  parts_copy [] page = refl
  parts_copy (x ∷ parts) page =
      parts_copy parts (with_part owner after position page x) ∙ part_copy page x

  -- a page that no part is on stays
  pub none_on : (parts : List Part) (page : Content)
      → list_any (λ (part : Part). part.page == page.number) parts ≡ false
      → with_parts owner after position page parts ≡ page
  none_on [] page none = refl
  none_on (x ∷ parts) page none = go (x.page == page.number) refl (λ rest. none_on parts page rest)
    where
      go : (t : Bool) → (x.page == page.number) ≡ t
          → (list_any (λ (part : Part). part.page == page.number) parts ≡ false
          → with_parts owner after position page parts ≡ page)
          → with_parts owner after position page (x ∷ parts) ≡ page
      go true e rest = absurd
          (clash
          (sym (ap (λ b. b || list_any (λ (part : Part). part.page == page.number) parts) e)
          ∙ none))
      go false e rest =
          let same : with_part owner after position page x ≡ page =
          ap (λ b. if b then changed page x owner after position else page) e in
          ap (λ (c : Content). with_parts owner after position c parts) same
          ∙ rest
          (sym (ap (λ b. b || list_any (λ (part : Part). part.page == page.number) parts) e) ∙ none)

  -- its position stays where it is this one already
  stays_at : (parts : List Part) (page : Content) → page.position ≡ position
      → (with_parts owner after position page parts).position ≡ position
  stays_at [] page at = at
  stays_at (x ∷ parts) page at = stays_at parts (with_part owner after position page x)
      (elim (x.page == page.number) as
      (λ t. (if t then changed page x owner after position else page).position ≡ position) [
        | true ↦ refl
        | false ↦ at
      ])

  -- a page that a part is on gets the position
  pub some_on : (parts : List Part) (page : Content)
      → list_any (λ (part : Part). part.page == page.number) parts ≡ true
      → (with_parts owner after position page parts).position ≡ position
  some_on [] page some = absurd (cc (some))
  some_on (x ∷ parts) page some = go (x.page == page.number) refl (λ rest. some_on parts page rest)
    where
      go : (t : Bool) → (x.page == page.number) ≡ t
          → (list_any (λ (part : Part). part.page == page.number) parts ≡ true
          → (with_parts owner after position page parts).position ≡ position)
          → (with_parts owner after position page (x ∷ parts)).position ≡ position
      go true e rest =
          let same : with_part owner after position page x ≡ changed page x owner after position =
          ap (λ b. if b then changed page x owner after position else page) e in
          stays_at parts (with_part owner after position page x)
          (ap (λ (c : Content). c.position) same)
      go false e rest =
          let same : with_part owner after position page x ≡ page =
          ap (λ b. if b then changed page x owner after position else page) e in
          ap (λ (c : Content). (with_parts owner after position c parts).position) same
          ∙ rest
          (sym (ap (λ b. b || list_any (λ (part : Part). part.page == page.number) parts) e) ∙ some)

  -- parts of other pages fit
  pub none_fit : (parts : List Part) (page : Content)
      → list_any (λ (part : Part). part.page == page.number) parts ≡ false
      → AllFit owner after position page parts
  none_fit [] page none = tt
  none_fit (x ∷ parts) page none =
      go (x.page == page.number) refl (λ rest. none_fit parts page rest)
    where
      go : (t : Bool) → (x.page == page.number) ≡ t
          → (list_any (λ (part : Part). part.page == page.number) parts ≡ false
          → AllFit owner after position page parts)
          → AllFit owner after position page (x ∷ parts)
      go true e rest = absurd
          (clash
          (sym (ap (λ b. b || list_any (λ (part : Part). part.page == page.number) parts) e)
          ∙ none))
      go false e rest =
          let same : with_part owner after position page x ≡ page =
          ap (λ b. if b then changed page x owner after position else page) e in
          let other : x.page ≡ page.number → ⊥ =
          λ is.
          absurd (differ (sym e ∙ subst (λ n. (x.page == n) ≡ true) is (nat_itself x.page))) in (
            λ is. absurd (other is),
            subst (λ (c : Content). AllFit owner after position c parts) (sym same)
                (rest
                (sym (ap (λ b. b || list_any (λ (part : Part). part.page == page.number) parts) e)
                ∙ none)),
          )

-- a record that leaves the page as it is: where it is on the page, the page has it
pub record Passed (r : Record) (x : Content) : Type 0 where
  pub same : redone r x ≡ x
  pub why : names x.number r ≡ true → r.position.0 ≤ x.position

-- a record that changes the page
pub record Gained (r : Record) (x : Content) : Type 0 where
  pub named : names x.number r ≡ true
  pub above : x.position < r.position.0
  pub position : (redone r x).position ≡ r.position.0

module _ (r : Record) (x : Content) where
  pub number_stays : (redone r x).number ≡ x.number
  number_stays = elim (nat_lt x.position r.position.0) as (λ t.
      (if t then with_parts r.tran.0 (after_of r.kind) r.position.0 x (parts_of r.kind)
      else x).number ≡ x.number) [
        | true ↦ parts_number r.tran.0 (after_of r.kind) r.position.0 (parts_of r.kind) x
        | false ↦ refl
      ]

  pub copy_stays : (redone r x).copy ≡ x.copy
  copy_stays = elim (nat_lt x.position r.position.0) as (λ t.
      (if t then with_parts r.tran.0 (after_of r.kind) r.position.0 x (parts_of r.kind) else x).copy
      ≡ x.copy) [
        | true ↦ parts_copy r.tran.0 (after_of r.kind) r.position.0 (parts_of r.kind) x
        | false ↦ refl
      ]

  pub step : Passed r x ⊎ Gained r x
  step = go (nat_lt x.position r.position.0) (names x.number r) refl refl
    where
      go : (t n : Bool) → nat_lt x.position r.position.0 ≡ t → names x.number r ≡ n
          → Passed r x ⊎ Gained r x
      go false n e named = inl (record {
        same = ap
            (λ b. if b then with_parts r.tran.0 (after_of r.kind) r.position.0 x (parts_of r.kind)
            else x) e;
        why = λ is. ltb-false x.position r.position.0 e;
      })
      go true false e named = inl (record {
        same = ap
            (λ b. if b then with_parts r.tran.0 (after_of r.kind) r.position.0 x (parts_of r.kind)
            else x) e ∙ none_on r.tran.0 (after_of r.kind) r.position.0 (parts_of r.kind) x named;
        why = λ is. absurd (clash (sym is ∙ named));
      })
      go true true e named = inr (record {
        named = named;
        above = ltb-true x.position r.position.0 e;
        position = ap
            (λ b. (if b then with_parts r.tran.0 (after_of r.kind) r.position.0 x (parts_of r.kind)
            else x).position) e
            ∙ some_on r.tran.0 (after_of r.kind) r.position.0 (parts_of r.kind) x named;
      })

  -- a record that the page has, or that is not on it, fits
  pub passed_fits : (names x.number r ≡ true → r.position.0 ≤ x.position) → RedoFits r x
  passed_fits why = λ above. go above (names x.number r) refl
    where
      go : x.position < r.position.0 → (n : Bool) → names x.number r ≡ n
          → AllFit r.tran.0 (after_of r.kind) r.position.0 x (parts_of r.kind)
      go above true named = absurd (omega (arith, above, why named))
      go above false named =
          none_fit r.tran.0 (after_of r.kind) r.position.0 (parts_of r.kind) x named
