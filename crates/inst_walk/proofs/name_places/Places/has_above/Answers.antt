use Rattle.std.proofs.Common.{sym, ◌∙◌, ap}
use Rattle.inst_walk.proofs.PlacesLemmas.{is_among-take, below}
use Rattle.inst_walk.proofs.name_places.Places.has_above.Goals as goal

pub returns-in-None : goal.returns-in-None
returns-in-None g c =
    sym (is_among-take g.N.PartialEq.eq c.args.self.now c.args.limit c.args.name ∙ ap (below c.args.limit) (sym c.place.ensures ∙ c.in-None.is))

pub returns-in-Some : goal.returns-in-Some
returns-in-Some g c =
    sym (is_among-take g.N.PartialEq.eq c.args.self.now c.args.limit c.args.name ∙ ap (below c.args.limit) (sym c.place.ensures ∙ c.in-Some.is))
