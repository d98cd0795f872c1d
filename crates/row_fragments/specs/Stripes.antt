-- What the fragments of a stripe mean.
use Rattle.std.specs.Prelude.{ℕ, if◌then◌else◌, List, [], slice_index_or}
use Rattle.rack.specs.Lists.{is_among}
use Rattle.row_fragments.specs.declared.stripe_fragments.StripeFragments.{StripeFragments}
use Rattle.row_fragments.specs.Servers.{servers_in}

abbrev pub fragment_on : StripeFragments → ℕ → List ℕ
fragment_on f s = if is_among (servers_in f.holders) s then slice_index_or f.held s [] else f.together
