-- Entries of a ring as those of a recording.
use Rattle.xdf_model.specs.Sample.{Sample}
use Rattle.ring_model.specs.declared.entry.Entry.{Entry as RingEntry}
use Rattle.recording_model.specs.Batch.{Entry}

abbrev pub ring_entry : RingEntry Sample → Entry
ring_entry e = record { position = e.position; sample = e.value }
