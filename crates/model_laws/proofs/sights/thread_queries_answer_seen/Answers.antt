use Rattle.model_laws.proofs.Glimpses.{thread_queries_answer_seen, same_sight_same_thread_answers}
use Rattle.model_laws.proofs.sights.thread_queries_answer_seen.Goals as goal

pub returns : goal.returns
returns c = record { seen = thread_queries_answer_seen; same = same_sight_same_thread_answers }
