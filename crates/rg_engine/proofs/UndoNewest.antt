-- The undo of a Change leaves the newest versions of pages.
use Rattle.std.proofs.Common.{◌≡◌, ◌+◌, ◌++◌, ℕ, List, [], ◌∷◌, length, sym, ◌∙◌, ap, subst}
use Rattle.rg_page.specs.Content.{slots_of}
use Rattle.rg_page.specs.declared.list.ListFrames.{ListFrames}
use Rattle.rg_record.specs.Applied.{parts_of}
use Rattle.rg_record.specs.declared.record.Record.{Record}
use Rattle.rg_redo.specs.Redo.{is_switch}
use Rattle.rg_space.specs.Carries.{AllThere}
use Rattle.rg_space.specs.Summarized.{Summarized}
use Rattle.rg_space.specs.Memory.{list_seen}
use Rattle.rg_space.specs.Ready.{record_wrote}
use Rattle.rg_space.specs.Space.{frames_of}
use Rattle.rg_space.specs.declared.space.Space.{Space}
use Rattle.rg_undo.specs.Undoing.{UndidChange, undo_record}
use Rattle.rg_laws_crash.proofs.NewestPagesLemmas.Near.{there_near}
use Rattle.rg_engine.specs.Newest.{StayNewest}
use Rattle.rg_engine.proofs.NewestKept.{record_stays}

pub undo_stays : (rs : List Record) (a b : Space ListFrames) (summaries : Summarized)
    (position back : ℕ)
    (entry undo : Record)
    → UndidChange position back (list_seen (frames_of a)) (list_seen (frames_of b)) summaries entry
    → undo ≡ undo_record position back (slots_of (list_seen (frames_of a)).pages) entry
    → position ≡ length rs + 1 → (list_seen (frames_of b)).copy ≡ (list_seen (frames_of a)).copy
    → StayNewest rs a (rs ++ undo ∷ []) b
undo_stays rs a b summaries position back entry undo did is next copy =
    record_stays rs undo a b
    (there_near (length (list_seen (frames_of a)).pages) (parts_of undo.kind)
    (subst (λ (r : Record). AllThere (length (list_seen (frames_of a)).pages) (parts_of r.kind))
    (sym is) did.there))
    (ap (λ (r : Record). r.position.0) is ∙ next) (ap (λ (r : Record). is_switch r.kind) is) copy
    (did.wrote
    ∙ ap (record_wrote (list_seen (frames_of a)).copy (list_seen (frames_of a)).pages) (sym is))

pub first_is : (r s : Record) (rs ss : List Record) → r ∷ rs ≡ s ∷ ss → r ≡ s
first_is r s rs ss e = cc (e)
