mod HistoryRows
