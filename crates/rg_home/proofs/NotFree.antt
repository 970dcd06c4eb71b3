-- Slots that are not Free, and the page of a new area.
use Rattle.std.proofs.Common.{◌≡◌, ℕ, Bool, true, false, List, Option, Some, None, refl}
use Rattle.rg_base.specs.declared.place.Place.{Place}
use Rattle.rg_home.specs.Able.{IsAreaOf, IsHomeOf}
use Rattle.rg_home.specs.Plan.{area_when, is_home}
use Rattle.rg_home.specs.Slot.{Slot}
use Rattle.rg_home.specs.Slot.{DeadOver, DeadPointer, DeadRow, Free, Over, Pointer, Row}
use Rattle.rg_home.specs.Slots.{is_free}

pub home_full : (s : Slot) → is_home s ≡ true → is_free s ≡ false
home_full Free is = absurd (cc (is))
home_full (Row capacity row) is = refl
home_full (Pointer capacity other) is = refl
home_full (Over capacity row home) is = refl
home_full (DeadRow capacity owner) is = refl
home_full (DeadPointer capacity other owner) is = refl
home_full (DeadOver capacity home owner) is = refl

pub home_of_full : (by : Option ℕ) (s : Slot) → IsHomeOf by s → is_free s ≡ false
home_of_full by Free is = absurd is
home_of_full by (Row capacity row) is = refl
home_of_full by (Pointer capacity other) is = refl
home_of_full by (Over capacity row home) is = refl
home_of_full by (DeadRow capacity owner) is = refl
home_of_full by (DeadPointer capacity other owner) is = refl
home_of_full by (DeadOver capacity home owner) is = refl

pub area_full : (by : Option ℕ) (home : Place) (s : Slot) → IsAreaOf by home s → is_free s ≡ false
area_full by home Free is = absurd is
area_full by home (Row capacity row) is = refl
area_full by home (Pointer capacity other) is = refl
area_full by home (Over capacity row other) is = refl
area_full by home (DeadRow capacity owner) is = refl
area_full by home (DeadPointer capacity other owner) is = refl
area_full by home (DeadOver capacity other owner) is = refl

pub any_owner : (owner : ℕ) (home : Place) (s : Slot) → IsAreaOf (Some owner) home s
    → IsAreaOf None home s
any_owner owner home (Over capacity row other) is = is
any_owner owner home (DeadOver capacity other by) is = (is.0, tt)
any_owner owner home Free is = is
any_owner owner home (Row capacity row) is = is
any_owner owner home (Pointer capacity other) is = is
any_owner owner home (DeadRow capacity by) is = is
any_owner owner home (DeadPointer capacity other by) is = is

pub area_page : (live : List ℕ) (n : ℕ) (slots : List Slot) (t : Bool)
    → (area_when live n slots t).place.page ≡ n
area_page live n slots true = refl
area_page live n slots false = refl
