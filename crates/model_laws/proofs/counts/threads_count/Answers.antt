use Rattle.model_laws.proofs.Counting.{end_counts_threads, exec_counts_one, leaving_counts_one_less, thread_counts_one, thread_queries_count_nothing}
use Rattle.model_laws.proofs.counts.threads_count.Goals as goal

pub returns : goal.returns
returns c = record {
  made = thread_counts_one;
  left = leaving_counts_one_less;
  end = end_counts_threads;
  exec = exec_counts_one;
  query = thread_queries_count_nothing;
}
