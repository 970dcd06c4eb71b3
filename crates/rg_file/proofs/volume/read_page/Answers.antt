use Rattle.rg_file.proofs.volume.read_page.Goals as goal

pub returns-clause-page : goal.returns-clause-page
returns-clause-page g c = (
  c.seek_page.new.file,
  (c.in_ok-seek_page.ensures.moved, c.in_ok-seek_page.ensures.bytes),
  c.in_ok-read_padded.ensures.bytes,
)
