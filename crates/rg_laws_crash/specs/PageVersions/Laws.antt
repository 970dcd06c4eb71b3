-- What holds of the versions of a page.
--
-- 1. Redo of records that were redone changes nothing (`AgainIsNothing`).
-- 2. Redo of a log, from any version of a page that is not past it, gives the version that the
--    whole log makes. So it does not matter how old the page is that a crash leaves (`GoesOn`).
-- 3. A version whose position is no higher than k is version k. So a page may be written once the
--    log is forced up to its position, and no record that it lacks is above (`IsSettled`).
-- 4. Its position is no higher than k, if that of the first page is not (`StaysLow`).
-- 5. Records that are appended change no version before them (`MoreIsLater`).
-- 6. An opening takes a version as it is, if it takes the first page as it is (`IsTaken`).
-- 7. Where each record fitted the page when it was made, each that is redone on a version fits it
--    (`StillFits`).
-- 8. A page as all records leave it may be written once the log is forced up to its position
--    (`MayBeWritten`). What was written may stay there, whatever is appended and forced later
--    (`StaysThere`).
-- 9. A page that is read from what a crash leaves, and on which the log there is redone, is the
--    version that all records of that log make (`ReadsBack`).
-- 10. Redo of all pages of a list is redo of each (`OfAllPages`).
-- 11. The pages that an opening takes are those with which a copy may begin anew: each page that
--    was read may stand there, where all the records that were read are forced (`BeginsThere`).
use Rattle.std.specs.Prelude.{◌≡◌, ◌≤◌, ◌++◌, ℕ, List, drop, length, map, take}
use Rattle.rg_image.specs.Rules.{ArePositions}
use Rattle.rg_page.specs.Content.{Content}
use Rattle.rg_record.specs.declared.record.Record.{Record}
use Rattle.rg_redo.specs.Redo.{redone_all}
use Rattle.rg_laws_crash.specs.PageVersions.Versions.{EachFits, Epoch, IsBegun, IsOnVolume, Spells}
use Rattle.rg_laws_crash.specs.PageVersions.Versions.{redone_by, taken, version}

abbrev pub AgainIsNothing : Type 0
AgainIsNothing =
    (rs : List Record) (x : Content) → redone_by rs (redone_by rs x) ≡ redone_by rs x

abbrev pub GoesOn : Type 0
GoesOn =
    (e : Epoch) (rs : List Record) (p k n : ℕ) → e.from ≤ k → k ≤ n → n ≤ length rs
    → redone_by (drop e.from (take n rs)) (version e rs k p) ≡ version e rs n p

abbrev pub IsSettled : Type 0
IsSettled =
    (e : Epoch) (rs : List Record) (p k n : ℕ) → ArePositions rs → e.from ≤ k → k ≤ n
    → n ≤ length rs → (version e rs n p).position ≤ k → version e rs n p ≡ version e rs k p

abbrev pub StaysLow : Type 0
StaysLow =
    (e : Epoch) (rs : List Record) (p k : ℕ) → ArePositions rs → e.from ≤ k → k ≤ length rs
    → (e.base p).position ≤ k → (version e rs k p).position ≤ k

abbrev pub MoreIsLater : Type 0
MoreIsLater =
    (e : Epoch) (rs more : List Record) (p k : ℕ) → k ≤ length rs
    → version e (rs ++ more) k p ≡ version e rs k p

abbrev pub IsTaken : Type 0
IsTaken =
    (e : Epoch) (rs : List Record) (p k : ℕ) → ArePositions rs → k ≤ length rs
    → taken e p (e.base p) ≡ e.base p → taken e p (version e rs k p) ≡ version e rs k p

abbrev pub StillFits : Type 0
StillFits =
    (e : Epoch) (rs : List Record) (p k n : ℕ) → e.from ≤ k → k ≤ n → n ≤ length rs
    → EachFits (drop e.from (take n rs)) (e.base p)
    → EachFits (drop e.from (take n rs)) (version e rs k p)

abbrev pub MayBeWritten : Type 0
MayBeWritten =
    (e : Epoch) (rs : List Record) (p forced : ℕ) (bytes : List ℕ) → ArePositions rs
    → e.from ≤ forced → forced ≤ length rs → (version e rs (length rs) p).position ≤ forced
    → Spells bytes (version e rs (length rs) p) → IsOnVolume e rs forced p bytes

abbrev pub StaysThere : Type 0
StaysThere =
    (e : Epoch) (rs more : List Record) (p old new : ℕ) (bytes : List ℕ) → old ≤ length rs
    → old ≤ new → IsOnVolume e rs old p bytes → IsOnVolume e (rs ++ more) new p bytes

abbrev pub ReadsBack : Type 0
ReadsBack =
    (e : Epoch) (rs : List Record) (high p : ℕ) (bytes : List ℕ) (y : Content)
    → ArePositions rs → IsBegun e p → high ≤ length rs → IsOnVolume e rs high p bytes
    → Spells bytes y → y.copy ≡ e.copy → y.number ≡ p
    → redone_by (drop e.from (take high rs)) (taken e p y) ≡ version e rs high p

abbrev pub OfAllPages : Type 0
OfAllPages =
    (rs : List Record) (pages : List Content) → redone_all rs pages ≡ map (redone_by rs) pages

-- page p was read as y, of a log with these records, and the copy begins with what is taken of it
pub record IsRead (e : Epoch) (rs : List Record) (p : ℕ) (bytes : List ℕ) (y : Content) : Type 0
  where
    pub spells : Spells bytes y
    pub copy : y.copy ≡ e.copy
    pub number : y.number ≡ p
    pub position : y.position ≤ length rs
    pub base : e.base p ≡ taken e p y

abbrev pub BeginsThere : Type 0
BeginsThere =
    (e : Epoch) (rs : List Record) (p : ℕ) (bytes : List ℕ) (y : Content) → ArePositions rs
    → e.from ≤ length rs → IsRead e rs p bytes y
    → IsBegun e p × IsOnVolume e rs (length rs) p bytes
