-- Which ring an end is of.
use Rattle.rtrb.specs.Shared.{Names}
use Rattle.rtrb.specs.declared.consumer.Consumer.{Consumer}
use Rattle.rtrb.specs.declared.end.End.{End}
use Rattle.rtrb.specs.declared.producer.Producer.{Producer}
use Rattle.std.specs.declared.alloc.Global.{Global}
use denote.RawPtr.{Ptr}

-- what two ends of one ring share, and no end of another ring has
pub record Ring : Type 0 where
  pub words : Ptr
  pub slots : Ptr
  pub names : Names
  pub heap : Global

-- the ring of an end
abbrev pub ring_of : {T P : Type 0} → End T Global P → Ring
ring_of end = record { words = end.words; slots = end.slots; names = end.names; heap = end.heap }

-- the ring that an end sends into
abbrev pub sending_ring : {T P : Type 0} → Producer T Global P → Ring
sending_ring producer = ring_of producer.end

-- the ring that an end receives from
abbrev pub receiving_ring : {T P : Type 0} → Consumer T Global P → Ring
receiving_ring consumer = ring_of consumer.end
