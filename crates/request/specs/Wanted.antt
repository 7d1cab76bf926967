-- The subscriptions that a request asks for. Assumes nothing.
use Rattle.std.specs.Prelude.{List, take}
use Rattle.request.specs.declared.wanted.Asked.{Asked}
use Rattle.request.specs.declared.wanted.Wanted.{Wanted}

abbrev pub asked_in : Wanted → List Asked
asked_in w = take w.len w.places
