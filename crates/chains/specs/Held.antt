-- What chains of places hold.
use Rattle.std.specs.Prelude.{ℕ, zero, suc, false, List, [], ◌∷◌, map, drop, slice_index, slice_index_or}
use Rattle.std.specs.List.{range_with_len}
use Rattle.notice.specs.declared.event.Event.TheVariants as event
use Rattle.notice.specs.declared.event.Notice.{Notice}
use Rattle.notice.specs.declared.kinds.Kind.TheVariants as kind
use Rattle.notice.specs.declared.kinds.PrinterKind.TheVariants as printer-kind
use Rattle.notice.specs.declared.reasons.PrinterReason.TheVariants as printer-reason
use Rattle.notice.specs.declared.states.PrinterState.TheVariants as printer-state
use Rattle.chains.specs.declared.chain.Chain.{Chain}
use Rattle.chains.specs.declared.place.Place.{Place}

-- what stands on a place that was never used; it is in no list
abbrev pub blank : Notice
blank =
    record {
      number = 0;
      second = 0;
      subscribed = kind.Printer printer-kind.StateChanged;
      event = event.Printer (record { kind = printer-kind.StateChanged; state = printer-state.Idle; reason = printer-reason.None; accepting = false });
    }

-- n places in a row, each linked to the one after it
abbrev pub fresh_places : ℕ → List Place
fresh_places n = map (λ next. record { notice = blank; next = next }) (range_with_len 1 n)

abbrev pub links_of : List Place → List ℕ
links_of places = map (λ p. p.next) places

abbrev pub notices_of : List Place → List Notice
notices_of places = map (λ p. p.notice) places

-- what stands on n places from place p on, along the links
abbrev pub walk : List ℕ → List Notice → ℕ → ℕ → List Notice
walk links notices p zero = []
walk links notices p (suc n) = slice_index_or notices p blank ∷ walk links notices (slice_index links p) n

abbrev pub rows : List ℕ → List Notice → List Chain → List (List Notice)
rows links notices chains = map (λ c. walk links notices c.first c.count) chains

-- the lists of the slots: chain 0 is that of the free places, and chain i + 1 that of slot i
abbrev pub chain_lists : List Place → List Chain → List (List Notice)
chain_lists places chains = drop 1 (rows (links_of places) (notices_of places) chains)
