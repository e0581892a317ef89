use Rattle.hap_words.proofs.Order.{order-free}
use Rattle.hap_words.proofs.laws.order_is_free.Goals as goal

pub returns : goal.returns
returns c = order-free
