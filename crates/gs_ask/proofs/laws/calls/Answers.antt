use Rattle.gs_ask.proofs.Giving.{gives_then, gives_stop, gives_one, gives_one_wait, gives_ends_or_waits, gives_settle, gives_settle_err}
use Rattle.gs_ask.proofs.laws.calls.Goals as goal

pub returns-clause-one_answer : goal.returns-clause-one_answer
returns-clause-one_answer g c o gs gs' ls ls' = record {
  ends = λ a b h h'. gives_one o gs gs' ls ls' a b h h';
  waits = λ s y h h'. gives_one_wait o gs gs' ls ls' s y h h';
  not_both = λ a s h h'. gives_ends_or_waits o gs gs' ls ls' a s h h';
}

pub returns-clause-go_on : goal.returns-clause-go_on
returns-clause-go_on g c m m' ns gs gs' ks ls ls' t k = record {
  after = λ a r h e go. gives_then m m' ns ks t k a gs ls gs' ls' r h e go;
  stopped = λ e h. gives_stop m ns ks t k e gs ls gs' ls' h;
}

pub returns-clause-settle : goal.returns-clause-settle
returns-clause-settle g c m m' ns gs gs' t cs = record {
  checked = λ a u h e go. gives_settle m m' ns t a gs cs gs' u h e go;
  stopped = λ a e h same go. gives_settle_err m m' ns t a gs cs gs' gs' e h same go;
}
