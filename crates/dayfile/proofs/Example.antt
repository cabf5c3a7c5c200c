-- What one file holds, computed. Assumes nothing.
use mathlib.Core.Path.{refl}
use Rattle.tags.specs.Tags.{tag_of}
use Rattle.dayfile.specs.Record.{read_at}
use Rattle.dayfile.specs.Calls.{records_within, records_from}
use Rattle.dayfile.specs.Example.{Example}

pub example : Example
unfolding tag_of read_at records_within records_from
example = refl
