-- Pages after one record more.
use Rattle.std.proofs.Common.{◌≡◌, ◌++◌, ℕ, List, [], ◌∷◌, length, refl, sym, ap, subst, ◌∙◌}
use Rattle.rg_page.specs.Content.{Content}
use Rattle.rg_page.specs.Seen.{Seen}
use Rattle.rg_record.specs.Applied.{parts_of}
use Rattle.rg_record.specs.declared.record.Record.{Record}
use Rattle.rg_space.specs.Carries.{AllThere}
use Rattle.rg_space.specs.Ready.{record_wrote}
use Rattle.rg_undo.specs.Wrote.{wrote_each, AllOnPages}

wrote_last : (copy : ℕ) (pages : List Content) (rs : List Record) (entry : Record)
    → wrote_each copy pages (rs ++ entry ∷ []) ≡ record_wrote copy (wrote_each copy pages rs) entry
wrote_last copy pages [] entry = refl
wrote_last copy pages (x ∷ rs) entry = wrote_last copy (record_wrote copy pages x) rs entry

there_last : (count : ℕ) (rs : List Record) (entry : Record) → AllOnPages count rs
    → AllThere count (parts_of entry.kind) → AllOnPages count (rs ++ entry ∷ [])
there_last count [] entry all more = (more, tt)
there_last count (x ∷ rs) entry all more = (all.0, there_last count rs entry all.1 more)

-- a are the frames before the first record, b those after these, and z those once one more has
-- written
module _ (a b z : Seen) (done after : List Record) (entry : Record)
    (is : after ≡ done ++ entry ∷ []) where
  pub wrote_more : b.copy ≡ a.copy → b.pages ≡ wrote_each a.copy a.pages done
      → z.pages ≡ record_wrote b.copy b.pages entry → z.pages ≡ wrote_each a.copy a.pages after
  wrote_more copy so_far wrote =
      wrote
      ∙ ap (λ (n : ℕ). record_wrote n b.pages entry) copy
      ∙ ap (λ (pages : List Content). record_wrote a.copy pages entry) so_far
      ∙ sym (wrote_last a.copy a.pages done entry)
      ∙ sym (ap (wrote_each a.copy a.pages) is)

  pub there_more : length b.pages ≡ length a.pages → AllOnPages (length a.pages) done
      → AllThere (length b.pages) (parts_of entry.kind) → AllOnPages (length a.pages) after
  there_more count so_far there =
      subst (AllOnPages (length a.pages)) (sym is)
      (there_last (length a.pages) done entry so_far
      (subst (λ (n : ℕ). AllThere n (parts_of entry.kind)) count there))
