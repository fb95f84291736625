-- What the entries of the second and of the aggregated functions ask of the lists that they read, by the names that the crates above use.
pub use Rattle.fold.specs.Known.WorkFacts.{TermFacts, ProjectionFacts, SecondFacts, WholeFacts, AggregateFacts}
