-- What is seen of pages in memory.
--
-- 1. Frames that keep all pages are always sure, count no fault, and have frames to spare.
use Rattle.std.specs.Prelude.{List, true, length}
use Rattle.rg_home.specs.Slot.{Slot}
use Rattle.rg_page.specs.Content.{slots_of}
use Rattle.rg_page.specs.Seen.{Seen}
use Rattle.rg_page.specs.declared.list.ListFrames.{ListFrames}
use Rattle.rg_space.specs.Space.{frames_of}
use Rattle.rg_space.specs.declared.space.Space.{Space}

-- frames that keep all pages, of which all are held
abbrev pub list_seen : ListFrames → Seen
list_seen f = record {
  copy = f.copy;
  pages = f.pages.items;
  held = λ _. true;
  reserved = length f.reserved.items;
  limit = 4294967295;
  forced = 18446744073709551616;
  spare = 4294967295;
  idle = 4294967295;
  faults = 0;
  sure = true;
  fixed = λ _. true;
}

-- the slots of the pages of a space
abbrev pub space_pages : Space ListFrames → List (List Slot)
space_pages space = slots_of (list_seen (frames_of space)).pages
